-- Laws of decisions: one for each test and each outcome, and what an outcome tells of the test.
-- Assumes nothing.
use Rattle.std.specs.Prelude.{if◌then◌else◌}
use Prim.Native.Nat.{ℕ, ◌<◌, ◌≤◌}
use mathlib.Core.Path.{◌≡◌, refl}
use mathlib.Core.Bool.{Bool, true, false, ◌&&◌, false≢true}
use lib.Dec.{ltb, leb, eqb}
use borrow.Author.Tests.{le-leb, lt-leb, eq-eqb, ne_eqb, lt-ltb, le-ltb}
use Rattle.rules.specs.Tests.{neb}

-- `search branches` walks a chain of decisions by the facts of the code's branches
module _ {A : Type 0} where
  pub flag_yes : (t b : Bool) (x y r : A) → b ≡ t → b ≡ true → r ≡ x → r ≡ (if t then x else y)
  flag_yes t b x y r e h k = rw (← e, h) k

  pub flag_no : (t b : Bool) (x y r : A) → b ≡ t → b ≡ false → r ≡ y → r ≡ (if t then x else y)
  flag_no t b x y r e h k = rw (← e, h) k

  pub lt_yes : (a b : ℕ) (x y r : A) → a < b → r ≡ x → r ≡ (if ltb a b then x else y)
  lt_yes a b x y r h k = rw (lt-ltb a b h) k

  pub lt_no : (a b : ℕ) (x y r : A) → b ≤ a → r ≡ y → r ≡ (if ltb a b then x else y)
  lt_no a b x y r h k = rw (le-ltb a b h) k

  pub le_yes : (a b : ℕ) (x y r : A) → a ≤ b → r ≡ x → r ≡ (if leb a b then x else y)
  le_yes a b x y r h k = rw (le-leb a b h) k

  pub le_no : (a b : ℕ) (x y r : A) → b < a → r ≡ y → r ≡ (if leb a b then x else y)
  le_no a b x y r h k = rw (lt-leb a b h) k

  pub eq_yes : (a b : ℕ) (x y r : A) → a ≡ b → r ≡ x → r ≡ (if eqb a b then x else y)
  eq_yes a b x y r h k = rw (eq-eqb a b h) k

  pub eq_no : (a b : ℕ) (x y r : A) → (a ≡ b → ⊥) → r ≡ y → r ≡ (if eqb a b then x else y)
  eq_no a b x y r h k = rw (ne_eqb a b h) k

  pub ne_yes : (a b : ℕ) (x y r : A) → (a ≡ b → ⊥) → r ≡ x → r ≡ (if neb a b then x else y)
  ne_yes a b x y r h k = rw (ne_eqb a b h) k

  pub ne_no : (a b : ℕ) (x y r : A) → a ≡ b → r ≡ y → r ≡ (if neb a b then x else y)
  ne_no a b x y r h k = rw (eq-eqb a b h) k

  -- of a decision whose one outcome cannot be, the other
  pub only_first : (t : Bool) {x y r : A} → (y ≡ r → ⊥) → (if t then x else y) ≡ r → (t ≡ true) × (x ≡ r)
  only_first true n e = (refl, e)
  only_first false n e = absurd (n e)

  pub only_second : (t : Bool) {x y r : A} → (x ≡ r → ⊥) → (if t then x else y) ≡ r → (t ≡ false) × (y ≡ r)
  only_second true n e = absurd (n e)
  only_second false n e = (refl, e)

pub ruleset branches = (flag_yes, flag_no, lt_yes, lt_no, le_yes, le_no, eq_yes, eq_no, ne_yes, ne_no)

-- two tests that both hold
pub both_true : (a b : Bool) → (a && b) ≡ true → (a ≡ true) × (b ≡ true)
both_true true b e = (refl, e)
both_true false b e = absurd (false≢true e)
