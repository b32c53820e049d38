-- Laws of the steps: one for each way through what a word does, where it has the form and names no stop that was met before.
-- Assumes nothing.
use Rattle.std.specs.Prelude.{Ok, Err}
use Prim.Native.Nat.{ℕ, ◌+◌, ◌<◌, ◌≤◌}
use mathlib.Core.Path.{◌≡◌, refl, sym, ◌∙◌}
use mathlib.Core.Bool.{Bool, true, false}
use mathlib.Core.List.{List}
use native.Mathlib.Omega.{arith}
use borrow.Author.Tests.{lt-ltb, le-ltb}
use Rattle.rules.specs.Faults.{plan_fault_number}
use Rattle.rules.specs.Fields.{stop_place, quantity}
use Rattle.rules.specs.PlanWords.{Word, vehicle, stop, tip, rest, back, left}
use Rattle.rules.specs.Cargo.{empty, loaded, emptied, over_limits, cargo_fault, cargo_after}
use Rattle.rules.specs.Trip.{leaving, arrival, driven, visited, rested_at, visit_fault, rest_fault, back_fault}
use Rattle.rules.specs.Check.{one_out, one_served, one_left, one_back, tally_after}
use Rattle.rules.specs.declared.faults.PlanFault.{PlanFault}
use Rattle.rules.specs.declared.faults.PlanFault.TheVariants as Faults
use Rattle.rules.specs.declared.walk.Cargo.{Cargo}
use Rattle.rules.specs.declared.walk.Tally.{Tally}
use Rattle.rules.specs.declared.walk.Trip.{Trip}
use Rattle.trips.specs.Drives.{DrivesTo}
use Rattle.word_steps.specs.Steps.{stop_in, formed_fault, Next, StepOf, Within}
use Rattle.word_steps.specs.declared.steps.State.{State}
use Rattle.word_steps.specs.declared.steps.Step.{Step}

-- a fault leaves no state to speak of
pub step_fault : (day : List ℕ) (s : State) (w : Word) (f : PlanFault) {fault : ℕ} → plan_fault_number f ≡ fault → StepOf fault day s w (Err f)
step_fault day s w f e = record { fault_is = e; next_is = tt }

-- a drive without a fault ends in its trip
drives_on : {fault : ℕ} {trip ends : Trip} → DrivesTo fault ends (Ok trip) → trip ≡ ends
drives_on d = d.trip_is (sym d.fault_is)

-- a step in its parts
abbrev step_to : ℕ → Tally → Cargo → Trip → Step
step_to named tally cargo trip = record { stop = named; state = record { tally = tally; cargo = cargo; trip = trip } }

module _ (day : List ℕ) (s : State) where
  -- B: over a limit, or driven to
  module _ (k : ℕ) (q : ℕ) (e : q ≡ quantity day (stop_place day k)) (cargo : Cargo) (c : cargo ≡ loaded s.cargo q) (over : Bool)
      (u : over ≡ over_limits day cargo) where
    over_is : over_limits day (loaded s.cargo (quantity day (stop_place day k))) ≡ over
    over_is = rw (← e, ← c) (sym u)

    pub stop_over : over ≡ true → StepOf (formed_fault day s (stop k)) day s (stop k) (Err Faults.Limit)
    unfolding formed_fault cargo_fault
    stop_over h = step_fault day s (stop k) Faults.Limit (rw (over_is, h) refl)

    module _ (h : over ≡ false) where
      pub stop_missed : {f : PlanFault} → DrivesTo (visit_fault day s.trip (stop_place day k)) (visited day s.trip (stop_place day k)) (Err f)
          → StepOf (formed_fault day s (stop k)) day s (stop k) (Err f)
      unfolding formed_fault cargo_fault
      stop_missed {f} d = step_fault day s (stop k) f (rw (over_is, h) d.fault_is)

      pub stop_served : {trip : Trip} (tally : Tally) → DrivesTo (visit_fault day s.trip (stop_place day k)) (visited day s.trip (stop_place day k)) (Ok trip)
          → tally ≡ one_served s.tally
          → StepOf (formed_fault day s (stop k)) day s (stop k) (Ok (step_to k tally cargo trip))
      unfolding formed_fault cargo_fault cargo_after tally_after stop_in
      stop_served tally d y =
          record { fault_is = rw (over_is, h) d.fault_is; next_is = record { stop_is = refl; tally_is = y; cargo_is = c ∙ rw e; trip_is = drives_on d } }

  -- C: driven to
  pub tip_missed : (k : ℕ) {f : PlanFault} → DrivesTo (visit_fault day s.trip k) (visited day s.trip k) (Err f)
      → StepOf (formed_fault day s (tip k)) day s (tip k) (Err f)
  unfolding formed_fault cargo_fault
  tip_missed k {f} d = step_fault day s (tip k) f d.fault_is

  pub tip_emptied : (k : ℕ) {trip : Trip} (tally : Tally) (cargo : Cargo) → DrivesTo (visit_fault day s.trip k) (visited day s.trip k) (Ok trip)
      → tally ≡ s.tally → cargo ≡ emptied s.cargo
      → StepOf (formed_fault day s (tip k)) day s (tip k) (Ok (step_to 0 tally cargo trip))
  unfolding formed_fault cargo_fault cargo_after tally_after stop_in
  tip_emptied k tally cargo d y c =
      record { fault_is = d.fault_is; next_is = record { stop_is = refl; tally_is = y; cargo_is = c; trip_is = drives_on d } }

  -- D: a rest taken
  pub rest_missed : {f : PlanFault} → DrivesTo (rest_fault day s.trip) (rested_at day s.trip) (Err f) → StepOf (formed_fault day s rest) day s rest (Err f)
  unfolding formed_fault cargo_fault
  rest_missed {f} d = step_fault day s rest f d.fault_is

  pub rest_taken : {trip : Trip} (tally : Tally) (cargo : Cargo) → DrivesTo (rest_fault day s.trip) (rested_at day s.trip) (Ok trip)
      → tally ≡ s.tally → cargo ≡ s.cargo
      → StepOf (formed_fault day s rest) day s rest (Ok (step_to 0 tally cargo trip))
  unfolding formed_fault cargo_fault cargo_after tally_after stop_in
  rest_taken tally cargo d y c =
      record { fault_is = d.fault_is; next_is = record { stop_is = refl; tally_is = y; cargo_is = c; trip_is = drives_on d } }

  -- E: back with load, at fault by the minute, or back
  pub back_loaded : 0 < s.cargo.load → StepOf (formed_fault day s back) day s back (Err Faults.Load)
  unfolding formed_fault cargo_fault
  back_loaded h = step_fault day s back Faults.Load (rw (lt-ltb _ _ h) refl)

  module _ (unladen : s.cargo.load ≤ 0) where
    pub back_missed : {f : PlanFault} → DrivesTo (back_fault day s.trip) (driven day s.trip 0 (arrival day s.trip 0)) (Err f)
        → StepOf (formed_fault day s back) day s back (Err f)
    unfolding formed_fault cargo_fault
    back_missed {f} d = step_fault day s back f (rw (le-ltb _ _ unladen) d.fault_is)

    module _ {trip : Trip} (d : DrivesTo (back_fault day s.trip) (driven day s.trip 0 (arrival day s.trip 0)) (Ok trip)) where
      pub back_home : (tally : Tally) (cargo : Cargo) → tally ≡ one_back s.tally trip.distance → cargo ≡ s.cargo
          → StepOf (formed_fault day s back) day s back (Ok (step_to 0 tally cargo trip))
      unfolding formed_fault cargo_fault cargo_after tally_after stop_in
      back_home tally cargo y c =
          record {
            fault_is = rw (le-ltb _ _ unladen) d.fault_is;
            next_is = record { stop_is = refl; tally_is = y ∙ rw (drives_on d); cargo_is = c; trip_is = drives_on d };
          }

      -- the distance of all vehicles fits
      pub home_fits : Within day 4096 s → s.tally.inside ≡ true → s.tally.distance + trip.distance < 4294967296
      home_fits h i = rw (drives_on d) (omega (arith, h.driven i))

  -- A: a vehicle leaves
  pub vehicle_leaves : (tally : Tally) (cargo : Cargo) (trip : Trip) → tally ≡ one_out s.tally → cargo ≡ empty → trip ≡ leaving day
      → (k : ℕ) → Next day s (vehicle k) (step_to 0 tally cargo trip)
  unfolding cargo_after tally_after stop_in
  vehicle_leaves tally cargo trip y c t k = record { stop_is = refl; tally_is = y; cargo_is = c; trip_is = t }

  pub vehicle_out : (k : ℕ) (r : Step) → ((k : ℕ) → Next day s (vehicle k) r) → StepOf (formed_fault day s (vehicle k)) day s (vehicle k) (Ok r)
  unfolding formed_fault cargo_fault
  vehicle_out k r n = record { fault_is = refl; next_is = n k }

  -- F: a stop is left out
  pub left_over : (k : ℕ) (r : Step) → ((day : List ℕ) → Next day s (left k) r) → StepOf (formed_fault day s (left k)) day s (left k) (Ok r)
  unfolding formed_fault cargo_fault
  left_over k r n = record { fault_is = refl; next_is = n day }

pub stop_left : (s : State) (k : ℕ) (tally : Tally) (cargo : Cargo) (trip : Trip) → tally ≡ one_left s.tally k → cargo ≡ s.cargo → trip ≡ s.trip
    → (day : List ℕ) → Next day s (left k) (step_to k tally cargo trip)
unfolding cargo_after tally_after stop_in
stop_left s k tally cargo trip y c t day = record { stop_is = refl; tally_is = y; cargo_is = c; trip_is = t }
