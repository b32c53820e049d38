-- `promises::calls::plan` meets its contract.
use Rattle.promises.proofs.DemandOne.{plan_answers, plan_keeps}
use Rattle.promises.proofs.calls.plan.Goals as goal

pub returns-clause-numbers : goal.returns-clause-numbers
returns-clause-numbers c = search plan_answers

pub returns-clause-kept : goal.returns-clause-kept
returns-clause-kept c = search plan_keeps
