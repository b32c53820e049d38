-- `planner::plan` meets its contract.
use mathlib.Core.Path.{◌∙◌}
use Rattle.planner.proofs.PlanCalls.{refused_plan_answer, refused_plan_buffer}
use Rattle.planner.proofs.plan.Goals as goal

pub plan_accepted-requires : goal.plan_accepted-requires
plan_accepted-requires c = let laid = rw c.in-Ok.is at c.lay_out.ensures in rw laid.0 laid.1

pub returns-in-Err-clause-answer : goal.returns-in-Err-clause-answer
returns-in-Err-clause-answer c = c.into.ensures ∙ refused_plan_answer _ _ _ _ (rw c.in-Err.is at c.lay_out.ensures) _

pub returns-in-Err-clause-buffer : goal.returns-in-Err-clause-buffer
returns-in-Err-clause-buffer c = refused_plan_buffer _ _ _ _ (rw c.in-Err.is at c.lay_out.ensures) _
