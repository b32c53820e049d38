-- `promises::calls::same_rounds` meets its contract.
use Rattle.promises.proofs.DemandOne.{same_answers}
use Rattle.promises.proofs.DemandTwo.{same_exactly}
use Rattle.promises.proofs.calls.same_rounds.Goals as goal

pub returns-clause-numbers : goal.returns-clause-numbers
returns-clause-numbers c = search same_answers

pub returns-clause-exactly : goal.returns-clause-exactly
returns-clause-exactly c = search same_exactly
