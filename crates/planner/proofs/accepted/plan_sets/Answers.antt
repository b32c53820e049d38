-- `planner::accepted::plan_sets` meets its contract.
use Rattle.planner.proofs.PlanCalls.{few_stops, long_plan, long_spare, short_answer, short_buffer, worked_answer, worked_buffer, worked_spare}
use mathlib.Core.Path.{refl}
use Rattle.planner.proofs.accepted.plan_sets.Goals as goal

pub are_long-requires : goal.are_long-requires
are_long-requires c = few_stops _ refl c.requires

pub work_over-requires : goal.work_over-requires
work_over-requires c =
    let long = c.are_long.ensures in
    (c.requires, long_plan c.args.day.now refl _ _ long c.if-are_long.true, long_spare c.args.day.now refl _ _ long c.if-are_long.true)

pub returns-then-are_long-clause-answer : goal.returns-then-are_long-clause-answer
returns-then-are_long-clause-answer c = search worked_answer

pub returns-then-are_long-clause-buffer : goal.returns-then-are_long-clause-buffer
returns-then-are_long-clause-buffer c = search worked_buffer

pub returns-then-are_long-clause-spare : goal.returns-then-are_long-clause-spare
returns-then-are_long-clause-spare c = search worked_spare

pub returns-clause-answer : goal.returns-clause-answer
returns-clause-answer c = search short_answer

pub returns-clause-buffer : goal.returns-clause-buffer
returns-clause-buffer c = search short_buffer
