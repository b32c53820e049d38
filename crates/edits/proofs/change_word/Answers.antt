-- `edits::change_word` meets its contract.
use mathlib.Core.Path.{refl}
use Rattle.edits.proofs.ChangeLaws.{rest_off, moved_before, moved_after, swapped, removed, replaced}
use Rattle.edits.proofs.change_word.Goals as goal

pub returns-then-word-eq-REST : goal.returns-then-word-eq-REST
returns-then-word-eq-REST c = search rest_off

pub returns-in-Before : goal.returns-in-Before
returns-in-Before c =
    λ day t k q n.
    let m = rw c.in-Before.is at k in
    rw c.in-Before.is (moved_before day _ _ _ _ m.0 m.1 c.move_word.ensures t c.if-word-eq-REST.false q n)

pub returns-in-After : goal.returns-in-After
returns-in-After c =
    λ day t k q n.
    let m = rw c.in-After.is at k in
    rw c.in-After.is (moved_after day _ _ _ _ m.0 m.1 c.move_word-in-After.ensures t c.if-word-eq-REST.false q n)

pub returns-in-Swap : goal.returns-in-Swap
returns-in-Swap c =
    λ day t k q n.
    let m = rw c.in-Swap.is at k in
    rw c.in-Swap.is (swapped day _ _ _ _ m.0 m.1 c.swap_word.ensures t c.if-word-eq-REST.false q n)

pub returns-in-Remove : goal.returns-in-Remove
returns-in-Remove c = λ day t k q n. rw c.in-Remove.is (removed day _ _ _ _ c.tip_word.ensures refl t c.if-word-eq-REST.false q n)

pub returns-in-Replace : goal.returns-in-Replace
returns-in-Replace c =
    λ day t k q n.
    let m = rw c.in-Replace.is at k in
    rw c.in-Replace.is (replaced day _ _ _ _ c.tip_word-in-Replace.ensures _ refl m t c.if-word-eq-REST.false q n)
