-- `next_task::choice::Choice::best_stop` meets its contract: the best so far is the least of the numbers of the words before word i.
use Prim.Native.Nat.{◌*◌}
use mathlib.Core.Path.{◌∙◌, refl}
use native.Mathlib.Omega.{arith}
use Rattle.laws.proofs.Walk.{below_none, below_all, word_next}
use Rattle.ways_home.proofs.BestLaws.{none_so_far}
use Rattle.ways_home.proofs.WayLaws.{chosen}
use Rattle.next_task.proofs.choice.Choice.best_stop.Goals as goal

pub loop-i-init : goal.loop-i-init
loop-i-init g c = (none_so_far _ _, below_none _ _ _)

pub loop-i-preserved : goal.loop-i-preserved
loop-i-preserved g c = let l = c.loop-i in
    (c.best_in_word-best.ensures.carried, word_next _ _ _ _ l.i l.best.number l.invariant.1 _ refl c.best_in_word-best.ensures.choice)

pub returns : goal.returns
returns g c = let l = c.loop-i in
    let least = below_all _ _ _ (l.i * 64) _ (omega arith) l.invariant.1 in
    chosen _ _ _ (c.choice.ensures.number ∙ least) (rw (← least) l.invariant.0.within) c.choice.ensures.some
