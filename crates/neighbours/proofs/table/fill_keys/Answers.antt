-- `neighbours::table::fill_keys` meets its contract.
use native.Mathlib.Omega.{arith}
use Rattle.neighbours.proofs.KeyLaws.{keys_next, key_by}
use Rattle.neighbours.proofs.table.fill_keys.Goals as goal

pub loop-j-preserved : goal.loop-j-preserved
loop-j-preserved c = keys_next _ _ _ _ _ c.loop-j.invariant (omega (arith, c.loop-j.invariant.size, c.loop-j-test.true, c.loop-j.auto.keys)) (key_by _ _ _ c.key_of.ensures c.unwrap_or.ensures)
