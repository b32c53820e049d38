-- `promises::calls::read` meets its contract.
use Rattle.promises.proofs.DemandOne.{read_answers, read_keeps}
use Rattle.promises.proofs.calls.read.Goals as goal

pub returns-clause-numbers : goal.returns-clause-numbers
returns-clause-numbers c = search read_answers

pub returns-clause-kept : goal.returns-clause-kept
returns-clause-kept c = search read_keeps
