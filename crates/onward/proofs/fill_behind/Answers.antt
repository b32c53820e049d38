-- `onward::fill_behind` meets its contract.
use borrow.Author.Rules.{rules}
use Prim.Native.Nat.{◌-◌, ◌≤◌, ◌<◌}
use mathlib.Core.Path.{◌≡◌, refl}
use native.Mathlib.Omega.{arith}
use lib.ListN.{length}
use Rattle.onward.specs.Behind.{homeward}
use Rattle.onward.specs.declared.TheConstants.{ROWS}
use Rattle.onward.proofs.FillLaws.{filling_inside, filling_start, filling_writes, filling_next, filling_end}
use Rattle.onward.proofs.fill_behind.Goals as goal

pub offset_bounds-behind-end : goal.offset_bounds-behind-end
offset_bounds-behind-end c = let p = c.requires in let l : c.args.end < ROWS = omega (arith, p.0, (filling_inside p.1).1) in search rules

pub bounds-behind-end : goal.bounds-behind-end
bounds-behind-end c = let p = c.requires in omega (arith, p.0, p.2, (filling_inside p.1).1)

pub loop-at-init : goal.loop-at-init
loop-at-init c =
    let p = c.requires in
    let home : c.default-o.result ≡ homeward = search rules in
    filling_start p.1 _ _ p.2 (omega (arith, p.0, p.2, (filling_inside p.1).1)) home

pub offset_bounds-plan-at : goal.offset_bounds-plan-at
offset_bounds-plan-at c =
    let p = c.requires in
    let l : c.loop-at.at ≤ 1200 = omega (arith, p.0, (filling_inside p.1).1, c.loop-at.invariant.high) in
    search rules

pub bounds-plan-at : goal.bounds-plan-at
bounds-plan-at c = let p = c.requires in omega (arith, (filling_inside p.1).1, c.loop-at.invariant.high, c.loop-at-test.true)

pub onward_before-o-requires : goal.onward_before-o-requires
onward_before-o-requires c =
    let p = c.requires in
    let w = filling_writes p.1 c.loop-at.invariant (c.loop-at.at - 1) (omega (arith, c.loop-at-test.true)) (omega (arith, c.loop-at-test.true)) in
    (w.word, w.next, omega (arith, w.few, p.0))

pub offset_bounds-behind-at : goal.offset_bounds-behind-at
offset_bounds-behind-at c =
    let p = c.requires in
    let l : c.loop-at.at ≤ 1200 = omega (arith, p.0, (filling_inside p.1).1, c.loop-at.invariant.high) in
    search rules

pub bounds-behind-at : goal.bounds-behind-at
bounds-behind-at c =
    let p = c.requires in
    omega (arith, p.0, c.loop-at.invariant.size, c.loop-at.invariant.high, (filling_inside p.1).1)

pub loop-at-preserved : goal.loop-at-preserved
loop-at-preserved c =
    let p = c.requires in
    let l : c.loop-at.at - 1 < length c.loop-at.behind = omega (arith, p.0, c.loop-at.invariant.size, c.loop-at.invariant.high, (filling_inside p.1).1) in
    filling_next p.1 c.loop-at.invariant (c.loop-at.at - 1) _ (omega (arith, c.loop-at-test.true)) l (omega (arith, c.loop-at-test.true)) c.onward_before-o.ensures

pub returns : goal.returns
returns c = filling_end c.requires.1 c.loop-at.invariant _ _ c.loop-at-test.false refl
