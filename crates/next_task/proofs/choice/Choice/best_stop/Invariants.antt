-- `next_task::choice::Choice::best_stop` meets its contract: the best so far is the least of the numbers of the words before word i.
use Prim.Native.Nat.{◌*◌}
use mathlib.Core.Path.{◌≡◌}
use Rattle.rules.specs.Fields.{stops}
use Rattle.laws.specs.Marks.{marked, both}
use Rattle.laws.specs.Walk.{least_below}
use Rattle.next_task.specs.Wanted.{wanted, key_of}
use Rattle.ways_home.specs.Bests.{BestBy}
use Rattle.next_task.proofs.choice.Choice.best_stop.Given as goal

abbrev pub invariant-loop-i : goal.invariant-loop-i
invariant-loop-i g l =
    let near = g.S.Search.near in
    let day = l.self.day.now in
    let key = key_of near day l.self.trip in
    BestBy key (stops day) l.best
    × (l.best.number ≡ least_below (both (marked l.fn.left.words) (wanted near day l.self.trip l.self.cargo)) key (stops day) (l.i * 64))
