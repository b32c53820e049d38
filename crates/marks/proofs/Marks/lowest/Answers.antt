-- `Marks::lowest` finds the lowest mark: the words passed have none (`lowest_next`), and the first that is not 0 has it (`lowest_word`).
use Prim.Native.Nat.{ℕ, ◌*◌, ◌≤◌, ◌<◌}
use mathlib.Core.Path.{◌≡◌}
use mathlib.Core.Bool.{false}
use mathlib.Core.Logic.{inl, inr}
use mathlib.Core.List.{List}
use native.Mathlib.Omega.{arith}
use lib.ListN.{length}
use mir.Syntax.{w64}
use Rattle.laws.specs.Marks.{marked}
use Rattle.laws.proofs.Arrays.{array_length}
use Rattle.laws.proofs.Decided.{known}
use Rattle.laws.proofs.Marks.{lowest_next, lowest_word, marked_within}
use Rattle.marks.proofs.Marks.lowest.Goals as goal

-- all words are passed, so no number is marked
none_marked : (ws : List ℕ) (i : ℕ) → length ws ≤ i → ((j : ℕ) → j < i * 64 → marked ws j ≡ false) → (j : ℕ) → marked ws j ≡ false
none_marked ws i l none j = elim (known (marked ws j)) [ inl e ↦ none j (omega (arith, marked_within ws j e)) | inr e ↦ e ]

pub returns-then-word-ne0 : goal.returns-then-word-ne0
returns-then-word-ne0 c = let h = c.loop-i in
    (omega arith, lowest_word c.args.self.words h.i h.invariant 4 _ (omega arith) c.lowest_bit.ensures)

pub loop-i-preserved : goal.loop-i-preserved
loop-i-preserved c = lowest_next _ _ c.loop-i.invariant c.if-word-ne0.false

pub returns : goal.returns
returns c =
    none_marked c.args.self.words c.loop-i.i (omega (arith, array_length w64 4 c.args.self.words _ c.well_formed.0.1.1.0)) c.loop-i.invariant
