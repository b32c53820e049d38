-- `neighbours::table::key_of` meets its contract.
use Rattle.neighbours.proofs.KeyLaws.{key_is}
use Rattle.neighbours.proofs.table.key_of.Goals as goal

pub returns-then-is_neighbour : goal.returns-then-is_neighbour
returns-then-is_neighbour c = key_is _ _ _ _ c.is_neighbour.ensures c.if-is_neighbour.true c.leg-leg.ensures c.stop_place.ensures c.stop_place-2.ensures
