-- `builder::greedy::write_plan` meets its contract.
use Rattle.builder.proofs.BuiltPlans.{plan_size, lefts_are, plan_filled}
use Rattle.builder.proofs.greedy.write_plan.Goals as goal

pub returns-clause-size : goal.returns-clause-size
returns-clause-size c = (search plan_size, search lefts_are)

pub returns-clause-text : goal.returns-clause-text
returns-clause-text c = search plan_filled
