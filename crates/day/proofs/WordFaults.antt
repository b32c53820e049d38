-- The fault of one word: one law for each way through the tests of it, and what a word without fault holds.
-- Assumes nothing.
use Prim.Native.Nat.{ℕ, ◌*◌, ◌/◌, ◌%◌, ◌≤◌}
use mathlib.Core.Path.{◌≡◌}
use mathlib.Core.Bool.{true}
use native.Mathlib.Omega.{arith}
use lib.Dec.{leb}
use borrow.Author.Tests.{le-leb, eq-eqb, leb-true, eqb-true}
use Rattle.rules.specs.DayFile.{Form, lone, window, leg, stay, lone_number, window_opening, window_closing, minutes_of, kind_right, value_right, fault_of}
use Rattle.laws.proofs.Tests.{only_first, both_true}

-- a lone number
module _ (w kind least most : ℕ) where
  pub lone_right : w / 134217728 ≡ 2 * kind → least ≤ w % 134217728 → w % 134217728 ≤ most → 0 ≡ fault_of (lone kind least most) w
  unfolding fault_of kind_right value_right
  lone_right k l h = rw (eq-eqb _ _ k, le-leb _ _ l, le-leb _ _ h)

-- a window
module _ (w kind : ℕ) where
  pub window_right : w / 16777216 ≡ 16 * kind → w / 4096 % 4096 ≤ w % 4096 → w % 4096 ≤ 1440 → 0 ≡ fault_of (window kind) w
  unfolding fault_of kind_right value_right
  window_right k l h = rw (eq-eqb _ _ k, le-leb _ _ l, le-leb _ _ h)

-- a leg from one place to another
module _ (w : ℕ) where
  pub leg_right : w / 268435456 ≡ 9 → w / 65536 % 4096 ≤ 1440 → 0 ≡ fault_of leg w
  unfolding fault_of kind_right value_right
  leg_right k h = rw (eq-eqb _ _ k, le-leb _ _ h)

  -- kind and minutes are one range of words
  pub leg_in_range : 2415919104 ≤ w → w ≤ 2510356479 → 0 ≡ fault_of leg w
  leg_in_range l h = leg_right (omega arith) (omega arith)

-- a leg from a place to itself
module _ (w : ℕ) where
  pub stay_right : w / 268435456 ≡ 9 → w % 268435456 ≡ 0 → 0 ≡ fault_of stay w
  unfolding fault_of kind_right value_right
  stay_right k h = rw (eq-eqb _ _ k, eq-eqb _ _ h)

-- a word without fault has the right kind and the right value
without_fault : (form : Form) (w : ℕ) → fault_of form w ≡ 0 → (kind_right form w ≡ true) × (value_right form w ≡ true)
unfolding fault_of
without_fault form w e =
    let two : ◌≡◌ {A = ℕ} 2 0 → ⊥ = λ h. omega arith in
    let five : ◌≡◌ {A = ℕ} 5 0 → ⊥ = λ h. omega arith in
    let k = only_first (kind_right form w) two e in
    (k.0, (only_first (value_right form w) five k.1).0)

-- what a word without fault holds: a lone number in its range, a window, a leg's minutes, nothing to drive
pub lone_range : (kind least most w : ℕ) → fault_of (lone kind least most) w ≡ 0 → (least ≤ lone_number w) × (lone_number w ≤ most)
unfolding value_right
lone_range kind least most w e =
    let v = both_true (leb least (lone_number w)) (leb (lone_number w) most) (without_fault (lone kind least most) w e).1 in
    (leb-true _ _ v.0, leb-true _ _ v.1)

pub window_range : (kind w : ℕ) → fault_of (window kind) w ≡ 0 → (window_opening w ≤ window_closing w) × (window_closing w ≤ 1440)
unfolding value_right
window_range kind w e =
    let v = both_true (leb (window_opening w) (window_closing w)) (leb (window_closing w) 1440) (without_fault (window kind) w e).1 in
    (leb-true _ _ v.0, leb-true _ _ v.1)

pub leg_range : (w : ℕ) → fault_of leg w ≡ 0 → minutes_of w ≤ 1440
unfolding value_right
leg_range w e = leb-true _ _ (without_fault leg w e).1

pub stay_range : (w : ℕ) → fault_of stay w ≡ 0 → w % 268435456 ≡ 0
unfolding value_right
stay_range w e = eqb-true _ _ (without_fault stay w e).1
