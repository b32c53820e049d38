-- The nearest open tip in one pass: after the first m tips, for every m, the answer carried is the one that the rule gives for those m alone,
-- and none exactly where none of them is open. Assumes nothing.
use Prim.Native.Nat.{ℕ, ◌≤◌, ◌<◌}
use mathlib.Core.Path.{◌≡◌, sym, ◌∙◌}
use mathlib.Core.Bool.{Bool, false, true≢false}
use mathlib.Core.List.{List}
use mathlib.Core.Logic.{◌↔◌, ◌⊎◌, inl, inr}
use native.Mathlib.Nat.{eq-zero-or-pos}
use native.Mathlib.Omega.{arith}
use borrow.Author.Tests.{ne_eqb}
use Rattle.rules.specs.Tests.{least}
use Rattle.rules.specs.Fields.{leg_minutes}
use Rattle.rules.specs.Home.{open_tip}
use Rattle.laws.proofs.Least.{least_is}
use Rattle.ways_home.specs.Bests.{BestBy}
use Rattle.ways_home.specs.declared.best.Best.{Best}
use Rattle.promises.specs.Carried.{CarriedAfter}

-- the least of 1..m is none exactly where none of them passes
least_none_exactly : (ok : ℕ → Bool) (key : ℕ → ℕ) (m : ℕ) → (least ok key m ≡ 0) ↔ ((k : ℕ) → 0 < k → k ≤ m → ok k ≡ false)
least_none_exactly ok key m = ((least_is ok key m).none, λ shut. go shut (eq-zero-or-pos (least ok key m)))
  where
    go : ((k : ℕ) → 0 < k → k ≤ m → ok k ≡ false) → (least ok key m ≡ 0) ⊎ (0 < least ok key m) → least ok key m ≡ 0
    go shut (inl z) = z
    go shut (inr p) = absurd (true≢false (sym ((least_is ok key m).passes p) ∙ shut _ p (least_is ok key m).within))

-- "after the first m tips, for every m": what the loop over the tips carries along
pub after_first_tips : (day : List ℕ) (place minute m count : ℕ) (best : Best) → BestBy (leg_minutes day place) count best
    → best.number ≡ least (open_tip day place minute) (leg_minutes day place) m
    → CarriedAfter day place minute m best.number best.key
after_first_tips day place minute m count best carried e = record {
  rule = e;
  away = λ h. rw (ne_eqb best.number 0 (λ z. omega arith)) at carried.key_is;
  none = rw e (least_none_exactly (open_tip day place minute) (leg_minutes day place) m);
}
