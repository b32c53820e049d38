-- The nearest open tip: what a tip's test comes to, and the pass over the tips.
-- Assumes nothing.
use Prim.Native.Nat.{ℕ, ◌+◌, ◌≤◌, ◌<◌}
use mathlib.Core.Path.{◌≡◌, sym, ap, ◌∙◌}
use mathlib.Core.Bool.{Bool, true, false, ◌||◌}
use mathlib.Core.List.{List}
use native.Mathlib.Omega.{arith}
use lib.Dec.{ltb, eqb}
use borrow.Author.Tests.{le-ltb, lt-ltb}
use Rattle.rules.specs.Tests.{better, least}
use Rattle.rules.specs.Fields.{leg_minutes}
use Rattle.rules.specs.Home.{open_tip}
use Rattle.laws.proofs.Least.{better_fails, better_wins, better_loses, least_none, least_suc}
use Rattle.day.specs.Layout.{LegOf}
use Rattle.day.specs.declared.fields.Leg.{Leg}
use Rattle.ways_home.specs.Bests.{BestBy}
use Rattle.ways_home.specs.declared.best.Best.{Best}
use Rattle.ways_home.proofs.BestLaws.{less_key}

-- a tip against the best so far: not nearer, not open, taken
module _ (day : List ℕ) (place minute k n : ℕ) (leg : Leg) (best : Best) (takes : LegOf day place k leg) (so_far : BestBy (leg_minutes day place) n best) where
  nearer : (b : Bool) → ltb leg.minutes best.key ≡ b → (eqb best.number 0 || ltb (leg_minutes day place k) (leg_minutes day place best.number)) ≡ b
  nearer b h = sym (less_key (leg_minutes day place) n k best so_far (omega arith)) ∙ (rw takes.takes at h)

  pub tip_farther : best.key ≤ leg.minutes → best.number ≡ better (open_tip day place minute) (leg_minutes day place) k best.number
  tip_farther h = sym (better_loses _ _ k _ (nearer false (le-ltb _ _ h)))

  pub tip_shut : {b : Bool} → b ≡ open_tip day place minute k → b ≡ false → best.number ≡ better (open_tip day place minute) (leg_minutes day place) k best.number
  tip_shut e z = sym (better_fails _ _ k _ (sym e ∙ z))

  pub tip_nearer : {b : Bool} → leg.minutes < best.key → b ≡ open_tip day place minute k → b ≡ true
      → k ≡ better (open_tip day place minute) (leg_minutes day place) k best.number
  tip_nearer h e z = sym (better_wins _ _ k _ (sym e ∙ z) (nearer true (lt-ltb _ _ h)))

-- the pass: after the first k tips the best so far is the least of them
module _ (day : List ℕ) (place minute : ℕ) where
  pub tips_none : 0 ≡ least (open_tip day place minute) (leg_minutes day place) 0
  tips_none = sym (least_none _ _)

  pub tips_next : (k best : ℕ) {next : ℕ} → best ≡ least (open_tip day place minute) (leg_minutes day place) k
      → next ≡ better (open_tip day place minute) (leg_minutes day place) (k + 1) best → next ≡ least (open_tip day place minute) (leg_minutes day place) (k + 1)
  tips_next k best e n = n ∙ ap (better _ _ (k + 1)) e ∙ sym (least_suc _ _ k)
