-- `neighbours::table::fill_row` meets its contract.
use native.Mathlib.Omega.{arith}
use Rattle.neighbours.proofs.NeighbourTable.{key_first, key_next, row_none, row_next, row_all}
use Rattle.neighbours.proofs.table.fill_row.Goals as goal

pub loop-place-init : goal.loop-place-init
loop-place-init c = (row_none _ _, key_first _)

pub loop-place-preserved : goal.loop-place-preserved
loop-place-preserved c =
    let e = key_next _ _ _ c.loop-place.invariant.1 c.next_key-last.ensures in
    (row_next _ _ _ _ _ c.loop-place.invariant.0 (omega (arith, c.loop-place.auto.row, c.loop-place-test.true)) e c.stop_of_key.ensures, e)

pub returns : goal.returns
returns c = row_all _ _ _ _ c.loop-place.invariant.0 c.loop-place-test.false
