-- `planner::plan_growing` meets its contract.
use mathlib.Core.Path.{◌∙◌}
use Rattle.planner.proofs.PlanCalls.{refused_growing_answer, refused_growing_buffer}
use Rattle.planner.proofs.plan_growing.Goals as goal

pub grow_accepted-requires : goal.grow_accepted-requires
grow_accepted-requires c = let laid = rw c.in-Ok.is at c.lay_out.ensures in rw laid.0 laid.1

pub returns-in-Err-clause-answer : goal.returns-in-Err-clause-answer
returns-in-Err-clause-answer c = c.into.ensures ∙ refused_growing_answer _ _ _ _ (rw c.in-Err.is at c.lay_out.ensures)

pub returns-in-Err-clause-buffer : goal.returns-in-Err-clause-buffer
returns-in-Err-clause-buffer c = refused_growing_buffer _ _ _ _ (rw c.in-Err.is at c.lay_out.ensures)
