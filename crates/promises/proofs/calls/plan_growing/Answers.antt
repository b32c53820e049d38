-- `promises::calls::plan_growing` meets its contract.
use Rattle.promises.proofs.DemandOne.{growing_answers, growing_keeps}
use Rattle.promises.proofs.calls.plan_growing.Goals as goal

pub returns-clause-numbers : goal.returns-clause-numbers
returns-clause-numbers c = search growing_answers

pub returns-clause-kept : goal.returns-clause-kept
returns-clause-kept c = search growing_keeps
