-- `promises::calls::vehicle_place` meets its contract.
use Rattle.promises.proofs.DemandOne.{vehicle_answers}
use Rattle.promises.proofs.calls.vehicle_place.Goals as goal

pub returns-clause-numbers : goal.returns-clause-numbers
returns-clause-numbers c = search vehicle_answers
