-- Rest if due and the way home: one law for each way through their functions.
-- Assumes nothing.
use Rattle.std.specs.Prelude.{if◌then◌else◌}
use Prim.Native.Nat.{ℕ, ◌+◌, ◌≤◌, ◌<◌, max}
use mathlib.Core.Path.{◌≡◌, refl, sym, ◌∙◌}
use mathlib.Core.Bool.{Bool, true, false, not, ◌&&◌}
use mathlib.Core.List.{List}
use native.Mathlib.Omega.{arith}
use lib.Dec.{leb}
use borrow.Author.Tests.{leb-true, eq-eqb, ne_eqb}
use Rattle.rules.specs.Fields.{rest_opening, rest_closing, rest_minutes}
use Rattle.rules.specs.Trip.{visited, rested_at}
use Rattle.rules.specs.Home.{nearest_tip, due, rest_if_due, home_direct, home_by_tip, home_loaded, way_home}
use Rattle.rules.specs.declared.walk.Trip.{Trip}
use Rattle.laws.proofs.Tests.{both_true}
use Rattle.trips.specs.Trips.{SmallTrip}

-- a rest where one is due
module _ (day : List ℕ) (t : Trip) where
  -- a rest that is due begins at once
  due_opened : due day t ≡ true → rest_opening day ≤ t.minute
  unfolding due
  due_opened e =
      let both = both_true (not t.rested) (leb (rest_opening day) t.minute && leb t.minute (rest_closing day)) e in
      leb-true _ _ (both_true (leb (rest_opening day) t.minute) (leb t.minute (rest_closing day)) both.1).0

  pub rest_taken : {b : Bool} {m : ℕ} → b ≡ due day t → b ≡ true → m ≡ rest_minutes day
      → record { minute = t.minute + m; place = t.place; rested = true; distance = t.distance } ≡ rest_if_due day t
  unfolding rest_if_due
  rest_taken eb z em =
      let yes-due : due day t ≡ true = sym eb ∙ z in
      let start : max t.minute (rest_opening day) ≡ t.minute = omega (arith, due_opened yes-due) in
      rw (yes-due, em, start)

  pub rest_not : {b : Bool} → b ≡ due day t → b ≡ false → t ≡ rest_if_due day t
  unfolding rest_if_due
  rest_not eb z = rw (← eb, z)

-- trips stay small: a visit's minute is bounded, and a rest is taken by R2
module _ (day : List ℕ) where
  pub visit_minute : (most : ℕ) (t u : Trip) (place : ℕ) → SmallTrip day most t → u ≡ visited day t place → u.minute < 536870912
  visit_minute most t u place h e = rw e (omega (arith, h.minute))

  pub visit_place : (t u : Trip) (place : ℕ) → u ≡ visited day t place → u.place ≡ place
  visit_place t u place e = rw e refl

  due_minute : (t : Trip) → due day t ≡ true → t.minute < 4096
  unfolding due
  due_minute t e =
      let both = both_true (not t.rested) (leb (rest_opening day) t.minute && leb t.minute (rest_closing day)) e in
      let late = both_true (leb (rest_opening day) t.minute) (leb t.minute (rest_closing day)) both.1 in
      omega (arith, leb-true t.minute (rest_closing day) late.1)

  -- what a rest does to a trip
  pub rest_minute : (most : ℕ) (t u : Trip) → 268435456 ≤ most → t.minute < most → u ≡ rest_if_due day t → u.minute < most
  unfolding rest_if_due
  rest_minute most t u l h e = rw e (go (due day t) refl)
    where
      go : (b : Bool) → due day t ≡ b → (if b then rested_at day t else t).minute < most
      go true q = omega (arith, due_minute t q)
      go false q = h

  pub rest_place : (t u : Trip) → u ≡ rest_if_due day t → u.place ≡ t.place
  unfolding rest_if_due
  rest_place t u e = rw e (go (due day t))
    where
      go : (b : Bool) → (if b then rested_at day t else t).place ≡ t.place
      go true = refl
      go false = refl

  rest_distance : (t : Trip) → (rest_if_due day t).distance ≡ t.distance
  unfolding rest_if_due
  rest_distance t = go (due day t)
    where
      go : (b : Bool) → (if b then rested_at day t else t).distance ≡ t.distance
      go true = refl
      go false = refl

  pub rest_small : (most : ℕ) (t u : Trip) → SmallTrip day most t → u ≡ rest_if_due day t → SmallTrip day most u
  rest_small most t u h e =
      record {
        place = rw (rest_place t u e) h.place;
        minute = rest_minute 268435456 t u (omega arith) h.minute e;
        distance = rw (e, rest_distance t) h.distance;
      }

-- the way home: no tip, by a tip, without a load
module _ (day : List ℕ) (t : Trip) where
  pub tip_none : (x : ℕ) → x ≡ 0 → false ≡ home_by_tip day t x
  unfolding home_by_tip
  tip_none x e = rw (eq-eqb x 0 e)

  pub tip_home : (x : ℕ) (u v : Trip) {b : Bool} → (x ≡ 0 → ⊥) → u ≡ visited day t x → v ≡ rest_if_due day u → b ≡ home_direct day v → b ≡ home_by_tip day t x
  unfolding home_by_tip
  tip_home x u v n eu ev eb = eb ∙ rw (ev, eu, ne_eqb x 0 n)

  pub empty_home : (load : ℕ) (u : Trip) {b : Bool} → load ≡ 0 → u ≡ rest_if_due day t → b ≡ home_direct day u → b ≡ way_home day t load
  unfolding way_home home_loaded
  empty_home load u e eu eb = eb ∙ rw (eu, eq-eqb load 0 e)

  pub loaded_home : (load x : ℕ) (u : Trip) {b : Bool} → (load ≡ 0 → ⊥) → u ≡ rest_if_due day t → x ≡ nearest_tip day u.place u.minute → b ≡ home_by_tip day u x
      → b ≡ way_home day t load
  unfolding way_home home_loaded
  loaded_home load x u n eu ex eb = eb ∙ rw (ex, eu, ne_eqb load 0 n)
