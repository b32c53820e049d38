-- `neighbours::table::fill_stop` meets its contract.
use Rattle.neighbours.proofs.NeighbourTable.{row_of}
use Rattle.neighbours.proofs.table.fill_stop.Goals as goal

pub returns : goal.returns
returns c = row_of _ _ _ _ _ c.requires.0 c.fill_keys.ensures c.fill_row.ensures c.fill_row.auto.row
