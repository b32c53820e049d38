-- `planner::accepted::is_few` meets its contract.
use Rattle.planner.proofs.PlanCalls.{few_by}
use Rattle.planner.proofs.accepted.is_few.Goals as goal

pub returns : goal.returns
returns c = few_by _
