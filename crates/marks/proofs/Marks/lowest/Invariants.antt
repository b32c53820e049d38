-- `Marks::lowest` finds the lowest mark: the words passed have none.
use Prim.Native.Nat.{ℕ, ◌*◌, ◌<◌}
use mathlib.Core.Path.{◌≡◌}
use mathlib.Core.Bool.{false}
use Rattle.laws.specs.Marks.{marked}
use Rattle.marks.proofs.Marks.lowest.Given as goal

abbrev pub invariant-loop-i : goal.invariant-loop-i
invariant-loop-i l = (j : ℕ) → j < l.i * 64 → marked l.fn.self.words j ≡ false
