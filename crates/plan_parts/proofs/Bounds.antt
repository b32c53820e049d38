-- The bounds of the walk: a word that passes keeps minutes and loads small, since they are at most a limit of the day's, and adds at most
-- one to each count and one leg to each distance. Assumes nothing.
use Rattle.std.specs.Prelude.{if◌then◌else◌}
use Prim.Native.Nat.{ℕ, ◌+◌, ◌*◌, ◌<◌, ◌≤◌}
use mathlib.Core.Path.{◌≡◌, refl}
use mathlib.Core.Bool.{Bool, true, false, false≢true}
use mathlib.Core.List.{List}
use native.Mathlib.Omega.{arith}
use lib.Dec.{ltb}
use borrow.Author.Tests.{ltb-false}
use Rattle.rules.specs.Fields.{tips, stops, places, stop_place, closing, rest_closing, quantity}
use Rattle.rules.specs.PlanWords.{Word, vehicle, stop, tip, rest, back, left, stray}
use Rattle.rules.specs.Cargo.{empty, loaded, over_limits, cargo_fault, cargo_after}
use Rattle.rules.specs.Trip.{leaving, visit_start, rest_start, arrival, visit_fault, rest_fault, back_fault, trip_fault, trip_after}
use Rattle.rules.specs.Check.{untold, within, well_formed, tally_after}
use Rattle.rules.specs.declared.walk.Cargo.{Cargo}
use Rattle.rules.specs.declared.walk.Tally.{Tally}
use Rattle.rules.specs.declared.walk.Trip.{Trip}
use Rattle.laws.proofs.Tests.{both_true, only_second}
use Rattle.word_steps.specs.Steps.{Next, Within}
use Rattle.trips.specs.Trips.{CargoWithin, TripWithin, TallyWithin}
use Rattle.word_steps.specs.declared.steps.State.{State}
use Rattle.word_steps.specs.declared.steps.Step.{Step}
use Rattle.plan_laws.proofs.Loads.{not_over}
use Rattle.plan_laws.proofs.Passing.{Passes, within_both}
use Rattle.plan_parts.specs.Walked.{walk_of}

-- no fault, no reason
fault_none : (t : Bool) (f : ℕ) → 0 < f → (if t then f else 0) ≡ 0 → t ≡ false
fault_none true f h e = absurd (omega arith)
fault_none false f h e = refl

-- what a vehicle carries after a word
cargo_within : (day : List ℕ) (c : Cargo) (w : Word) → CargoWithin c → cargo_fault day c w ≡ 0 → CargoWithin (cargo_after day c w)
unfolding cargo_fault cargo_after
cargo_within day c (vehicle k) h e = record { load = omega arith; kg = omega arith; visits = omega arith }
cargo_within day c (stop k) h e =
    let q = quantity day (stop_place day k) in
    let l = not_over day (loaded c q) (fault_none (over_limits day (loaded c q)) 9 (omega arith) e) in
    record { load = omega (arith, l.load); kg = omega (arith, l.kg); visits = omega (arith, l.visits) }
cargo_within day c (tip k) h e = record { load = omega arith; kg = h.kg; visits = h.visits }
cargo_within day c rest h e = h
cargo_within day c back h e = h
cargo_within day c (left k) h e = h
cargo_within day c stray h e = h

-- where and when a vehicle is after a word
module _ (day : List ℕ) (i : ℕ) (t : Trip) (h : TripWithin day i t) where
  visited_within : (place : ℕ) → place < places day → visit_fault day t place ≡ 0 → TripWithin day (i + 1) (trip_after day t (tip place))
  unfolding visit_fault
  visited_within place inside e =
      let kept : visit_start day t place ≤ closing day place = ltb-false _ _ (fault_none _ 11 (omega arith) e) in
      record { place = inside; minute = omega (arith, kept); distance = omega (arith, h.distance) }

  rested_within : rest_fault day t ≡ 0 → TripWithin day (i + 1) (trip_after day t rest)
  unfolding rest_fault
  rested_within e =
      let a = only_second t.rested (λ (z : 12 ≡ 0). omega arith) e in
      let kept : rest_start day t ≤ rest_closing day = ltb-false _ _ (fault_none _ 12 (omega arith) a.1) in
      record { place = h.place; minute = omega (arith, kept); distance = omega (arith, h.distance) }

  back_within : back_fault day t ≡ 0 → TripWithin day (i + 1) (trip_after day t back)
  unfolding back_fault
  back_within e =
      let a = only_second (ltb (closing day 0) (arrival day t 0)) (λ (z : 11 ≡ 0). omega arith) e in
      let kept : arrival day t 0 ≤ closing day 0 = ltb-false _ _ a.0 in
      record { place = omega arith; minute = omega (arith, kept); distance = omega (arith, h.distance) }

  trip_within : (y : Tally) (c : Cargo) (w : Word) → well_formed day y c w ≡ true → trip_fault day t w ≡ 0 → TripWithin day (i + 1) (trip_after day t w)
  unfolding well_formed
  trip_within y c (vehicle k) f e = record { place = omega arith; minute = omega arith; distance = omega arith }
  trip_within y c (stop k) f e =
      let known = within_both (stops day) k (both_true y.inside (within (stops day) k) f).1 in
      visited_within (stop_place day k) (omega (arith, known.1)) e
  trip_within y c (tip k) f e =
      let known = within_both (tips day) k (both_true y.inside (within (tips day) k) f).1 in
      visited_within k (omega (arith, known.1)) e
  trip_within y c rest f e = rested_within e
  trip_within y c back f e = back_within e
  trip_within y c (left k) f e = record { place = h.place; minute = h.minute; distance = omega (arith, h.distance) }
  trip_within y c stray f e = absurd (false≢true f)

-- the counts and the distance of all vehicles
module _ (day : List ℕ) (i : ℕ) (s : State) (h : Within day i s) where
  tally_within : (c : Cargo) (w : Word) → well_formed day s.tally c w ≡ true → TallyWithin (i + 1) (tally_after s.tally (trip_after day s.trip w) w)
  unfolding well_formed tally_after
  tally_within c (vehicle k) f = omega arith
  tally_within c (stop k) f = omega arith
  tally_within c (tip k) f = omega arith
  tally_within c rest f = omega arith
  tally_within c back f = omega (arith, h.driven (both_true s.tally.inside (ltb 0 c.visits) f).0)
  tally_within c (left k) f = omega arith
  tally_within c stray f = omega arith

  driven_within : (w : Word) → (tally_after s.tally (trip_after day s.trip w) w).inside ≡ true
      → (tally_after s.tally (trip_after day s.trip w) w).distance + (trip_after day s.trip w).distance ≤ 65535 * (i + 1)
  unfolding tally_after
  driven_within (vehicle k) e = omega arith
  driven_within (stop k) e = omega (arith, h.driven e)
  driven_within (tip k) e = omega (arith, h.driven e)
  driven_within rest e = omega (arith, h.driven e)
  driven_within back e = absurd (false≢true e)
  driven_within (left k) e = omega (arith, h.driven e)
  driven_within stray e = omega (arith, h.driven e)

  pub within_step : (met : List ℕ) (w : Word) (r : Step) → Passes day (walk_of s met) w → Next day s w r → Within day (i + 1) r.state
  within_step met w r p x =
      record {
        cargo_small = rw x.cargo_is (cargo_within day s.cargo w h.cargo_small p.cargo);
        trip_small = rw x.trip_is (trip_within day i s.trip h.trip_small s.tally s.cargo w p.formed p.trip);
        tally_small = rw x.tally_is (tally_within s.cargo w p.formed);
        driven = rw (x.tally_is, x.trip_is) (driven_within w);
      }

-- before the first word, and after at most 4,096 words
pub within_start : (day : List ℕ) (s : State) → s.tally ≡ untold → s.cargo ≡ empty → s.trip ≡ leaving day → Within day 0 s
within_start day s y c t =
    record {
      cargo_small = rw c (record { load = omega arith; kg = omega arith; visits = omega arith });
      trip_small = rw t (record { place = omega arith; minute = omega arith; distance = omega arith });
      tally_small = rw y (omega arith);
      driven = rw (y, t) (λ e. omega arith);
    }

pub within_more : (day : List ℕ) (i most : ℕ) (s : State) → i ≤ most → Within day i s → Within day most s
within_more day i most s g h =
    record {
      cargo_small = h.cargo_small;
      trip_small = record { place = h.trip_small.place; minute = h.trip_small.minute; distance = omega (arith, h.trip_small.distance) };
      tally_small = omega (arith, h.tally_small);
      driven = λ e. omega (arith, h.driven e);
    }
