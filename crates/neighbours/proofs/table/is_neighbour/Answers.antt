-- `neighbours::table::is_neighbour` meets its contract.
use Rattle.neighbours.proofs.KeyLaws.{compatible_by}
use Rattle.neighbours.proofs.table.is_neighbour.Goals as goal

pub returns : goal.returns
returns c = search compatible_by
