-- `planner::accepted::are_long` meets its contract.
use Rattle.planner.proofs.PlanCalls.{long_by}
use Rattle.planner.proofs.accepted.are_long.Goals as goal

pub returns : goal.returns
returns c = search long_by
