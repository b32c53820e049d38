-- `planner::build` meets its contract.
use mathlib.Core.Path.{◌∙◌}
use Rattle.builder.proofs.BuiltPlans.{accepted_answer, accepted_buffer, refused_answer, refused_buffer}
use Rattle.planner.proofs.build.Goals as goal

pub build_accepted-requires : goal.build_accepted-requires
build_accepted-requires c = let laid = rw c.in-Ok.is at c.lay_out.ensures in rw laid.0 laid.1

pub returns-in-Ok-clause-answer : goal.returns-in-Ok-clause-answer
returns-in-Ok-clause-answer c =
    let laid = rw c.in-Ok.is at c.lay_out.ensures in
    accepted_answer _ laid.1 _ _ (rw laid.0 at c.build_accepted.ensures.answer)

pub returns-in-Ok-clause-buffer : goal.returns-in-Ok-clause-buffer
returns-in-Ok-clause-buffer c =
    let laid = rw c.in-Ok.is at c.lay_out.ensures in
    accepted_buffer _ laid.1 _ _ (rw laid.0 at c.build_accepted.ensures.buffer)

pub returns-in-Err-clause-answer : goal.returns-in-Err-clause-answer
returns-in-Err-clause-answer c = c.into.ensures ∙ refused_answer _ (rw c.in-Err.is at c.lay_out.ensures) _

pub returns-in-Err-clause-buffer : goal.returns-in-Err-clause-buffer
returns-in-Err-clause-buffer c = refused_buffer _ (rw c.in-Err.is at c.lay_out.ensures) _
