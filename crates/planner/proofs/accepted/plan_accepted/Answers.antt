-- `planner::accepted::plan_accepted` meets its contract.
use Rattle.planner.proofs.PlanCalls.{one_fits, outside_answer, outside_buffer, few_answer, few_buffer, few_spare}
use Rattle.planner.proofs.accepted.plan_accepted.Goals as goal

pub invariant_of-one : goal.invariant_of-one
invariant_of-one c = record { fit = one_fits _ c.is_few.ensures c.if-is_few.true }

pub returns-then-is_few-clause-answer : goal.returns-then-is_few-clause-answer
returns-then-is_few-clause-answer c = search few_answer

pub returns-then-is_few-clause-buffer : goal.returns-then-is_few-clause-buffer
returns-then-is_few-clause-buffer c = search few_buffer

pub returns-then-is_few-clause-spare : goal.returns-then-is_few-clause-spare
returns-then-is_few-clause-spare c = search few_spare

pub returns-clause-answer : goal.returns-clause-answer
returns-clause-answer c = search outside_answer

pub returns-clause-buffer : goal.returns-clause-buffer
returns-clause-buffer c = search outside_buffer
