-- `promises::calls::check` meets its contract.
use Rattle.promises.proofs.DemandOne.{check_answers}
use Rattle.promises.proofs.DemandTwo.{check_exactly}
use Rattle.promises.proofs.calls.check.Goals as goal

pub returns-clause-numbers : goal.returns-clause-numbers
returns-clause-numbers c = search check_answers

pub returns-clause-exactly : goal.returns-clause-exactly
returns-clause-exactly c = search check_exactly
