-- `planner::accepted::grow_accepted` meets its contract.
use Rattle.planner.proofs.PlanCalls.{growing_answer_lem, growing_buffer_lem, growing_spare}
use Rattle.planner.proofs.accepted.grow_accepted.Goals as goal

pub returns-clause-answer : goal.returns-clause-answer
returns-clause-answer c = search growing_answer_lem

pub returns-clause-buffer : goal.returns-clause-buffer
returns-clause-buffer c = search growing_buffer_lem

pub returns-clause-spare : goal.returns-clause-spare
returns-clause-spare c = search growing_spare
