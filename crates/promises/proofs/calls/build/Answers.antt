-- `promises::calls::build` meets its contract.
use Rattle.promises.proofs.DemandOne.{build_answers, build_keeps}
use Rattle.promises.proofs.calls.build.Goals as goal

pub returns-clause-numbers : goal.returns-clause-numbers
returns-clause-numbers c = search build_answers

pub returns-clause-kept : goal.returns-clause-kept
returns-clause-kept c = search build_keeps
