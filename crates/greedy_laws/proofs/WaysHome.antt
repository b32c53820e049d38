-- Rest if due, and the way home: what they say of a vehicle's next words. The day may be any list of words.
-- Assumes nothing.
use Prim.Native.Nat.{ℕ, ◌≤◌, ◌<◌}
use mathlib.Core.Path.{◌≡◌, refl, sym, ◌∙◌}
use mathlib.Core.Bool.{true, false, not, ◌&&◌, ◌||◌, false≢true}
use mathlib.Core.List.{List}
use mathlib.Core.Logic.{inl, inr}
use native.Mathlib.Omega.{arith}
use lib.Dec.{leb, eqb}
use borrow.Author.Tests.{leb-true, eqb-false, not-true, le-ltb, ne_eqb}
use Rattle.rules.specs.Fields.{closing, rest_opening, rest_closing}
use Rattle.rules.specs.Trip.{arrival, visited, rest_start, rested_at, rest_fault, back_fault}
use Rattle.rules.specs.Home.{nearest_tip, due, rest_if_due, home_direct, home_by_tip, home_loaded, way_home}
use Rattle.rules.specs.declared.walk.Trip.{Trip}
use Rattle.laws.proofs.Decided.{known}
use Rattle.laws.proofs.Tests.{both_true, only_second}

module _ (day : List ℕ) (t : Trip) where
  -- a rest that is due: the vehicle had none, and it is within the window
  pub record Due : Type 0 where
    pub unfed : t.rested ≡ false
    pub opened : rest_opening day ≤ t.minute
    pub not_closed : t.minute ≤ rest_closing day

  pub due_true : due day t ≡ true → Due
  unfolding due
  due_true e =
      let a = both_true (not t.rested) (leb (rest_opening day) t.minute && leb t.minute (rest_closing day)) e in
      let b = both_true (leb (rest_opening day) t.minute) (leb t.minute (rest_closing day)) a.1 in
      record { unfed = not-true t.rested a.0; opened = leb-true _ _ b.0; not_closed = leb-true _ _ b.1 }

  -- it is taken without a fault, and no other is due behind it
  pub due_fault : due day t ≡ true → rest_fault day t ≡ 0
  unfolding rest_fault
  due_fault e =
      let d = due_true e in
      rw (d.unfed, le-ltb (rest_closing day) (rest_start day t) (omega (arith, d.opened, d.not_closed)))

  pub rested_not_due : due day (rested_at day t) ≡ false
  unfolding due
  rested_not_due = refl

  -- rest if due
  pub rest_due : due day t ≡ true → rest_if_due day t ≡ rested_at day t
  unfolding rest_if_due
  rest_due e = rw e

  pub rest_not_due : due day t ≡ false → rest_if_due day t ≡ t
  unfolding rest_if_due
  rest_not_due e = rw e

-- the way home is the same before a rest that is due and behind it
pub way_home_rested : (day : List ℕ) (t : Trip) (load : ℕ) → due day t ≡ true → way_home day (rested_at day t) load ≡ way_home day t load
unfolding way_home
way_home_rested day t load e = rw (rest_due day t e, rest_not_due day (rested_at day t) (rested_not_due day t))

-- with a load, where no rest is due: there is an open tip, and a way home from it
by_tip : (day : List ℕ) (t : Trip) (x : ℕ) → home_by_tip day t x ≡ true → (0 < x) × (way_home day (visited day t x) 0 ≡ true)
unfolding home_by_tip way_home home_loaded
by_tip day t x e =
    let p = only_second (eqb x 0) false≢true e in
    (omega (arith, eqb-false x 0 p.0), p.1)

loaded_by_tip : (day : List ℕ) (t : Trip) (load : ℕ) → due day t ≡ false → 0 < load
    → way_home day t load ≡ home_by_tip day t (nearest_tip day t.place t.minute)
unfolding way_home home_loaded
loaded_by_tip day t load e l = rw (rest_not_due day t e, ne_eqb load 0 (λ z. omega arith))

pub way_home_loaded : (day : List ℕ) (t : Trip) (load : ℕ) → due day t ≡ false → 0 < load → way_home day t load ≡ true
    → (0 < nearest_tip day t.place t.minute) × (way_home day (visited day t (nearest_tip day t.place t.minute)) 0 ≡ true)
way_home_loaded day t load e l h = by_tip day t (nearest_tip day t.place t.minute) (sym (loaded_by_tip day t load e l) ∙ h)

-- without one, the return has no fault
pub direct_fault : (day : List ℕ) (t : Trip) → home_direct day t ≡ true → back_fault day t ≡ 0
unfolding home_direct back_fault
direct_fault day t h =
    let p = both_true (leb (arrival day t 0) (closing day 0)) (t.rested || leb (arrival day t 0) (rest_closing day)) h in
    rw (le-ltb (closing day 0) (arrival day t 0) (leb-true _ _ p.0))
    (elim (known t.rested) [
      | inl e ↦ rw e refl
      | inr e ↦ rw (e, le-ltb (rest_closing day) (arrival day t 0) (leb-true _ _ (rw e at p.1))) refl
    ])

pub way_home_empty : (day : List ℕ) (t : Trip) → due day t ≡ false → way_home day t 0 ≡ true → back_fault day t ≡ 0
unfolding way_home home_loaded
way_home_empty day t e h = direct_fault day t (rw (rest_not_due day t e) at h)
