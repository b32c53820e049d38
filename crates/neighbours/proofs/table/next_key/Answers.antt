-- `neighbours::table::next_key` meets its contract.
use native.Mathlib.Omega.{arith}
use Rattle.neighbours.proofs.KeyLaws.{above_none, above_next, above_all}
use Rattle.neighbours.proofs.table.next_key.Goals as goal

pub loop-key-init : goal.loop-key-init
loop-key-init c = (omega arith, above_none c.args.last c.args.keys.now)

pub loop-key-preserved : goal.loop-key-preserved
loop-key-preserved c =
    let so_far = c.loop-key.invariant in
    (omega (arith, c.min-best.type_inv), above_next _ _ _ _ _ _ c.loop-key-test.true so_far.0 so_far.1 c.key_above.ensures c.min-best.ensures)

pub returns : goal.returns
returns c = above_all _ _ _ _ c.loop-key.invariant.1 c.loop-key-test.false
