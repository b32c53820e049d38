-- Laws of a drive: one for each way through a visit, a rest and a return. Assumes nothing.
use Rattle.std.specs.Prelude.{if◌then◌else◌, Ok, Err}
use Prim.Native.Nat.{ℕ, ◌+◌, ◌<◌, ◌≤◌, max}
use mathlib.Core.Path.{◌≡◌, refl, sym, ◌∙◌}
use mathlib.Core.Bool.{Bool, true, false, not, ◌&&◌}
use mathlib.Core.List.{List}
use native.Mathlib.Omega.{arith}
use lib.Dec.{ltb}
use borrow.Author.Tests.{lt-ltb, le-ltb}
use Rattle.rules.specs.Fields.{closing, rest_opening, rest_closing, rest_minutes, service}
use Rattle.rules.specs.Trip.{arrival, visit_start, rest_start, driven, visited, rested_at, visit_fault, rest_fault, back_fault}
use Rattle.rules.specs.Faults.{plan_fault_number}
use Rattle.rules.specs.declared.faults.PlanFault.{PlanFault}
use Rattle.rules.specs.declared.faults.PlanFault.TheVariants as Faults
use Rattle.rules.specs.declared.walk.Trip.{Trip}
use Rattle.day.specs.Layout.{WindowOf, LegOf}
use Rattle.day.specs.declared.fields.Leg.{Leg}
use Rattle.day.specs.declared.fields.Window.{Window}
use Rattle.trips.specs.Drives.{DrivesTo}

-- a fault, whose number is not 0, leaves no trip to speak of
at_fault : (f : PlanFault) {fault : ℕ} {trip : Trip} → fault ≡ plan_fault_number f → 0 < plan_fault_number f → DrivesTo fault trip (Err f)
at_fault f e h = record { fault_is = sym e; trip_is = λ z. absurd (omega (arith, e)) }

module _ (day : List ℕ) (t : Trip) where
  -- a visit, as the leg and the window give it
  module _ (place : ℕ) (leg : Leg) (hours : Window) {start : ℕ} (l : LegOf day t.place place leg) (h : WindowOf day place hours)
      (e : start ≡ max (t.minute + leg.minutes) hours.opening) where
    pub late_start : ltb hours.closing start ≡ ltb (closing day place) (visit_start day t place)
    late_start = rw (e, h.closes, h.opens, l.takes)

  -- and checked: too late, or in time
  module _ (place : ℕ) {late : Bool} (e : late ≡ ltb (closing day place) (visit_start day t place)) where
    pub visit_late : late ≡ true → DrivesTo (visit_fault day t place) (visited day t place) (Err Faults.Late)
    unfolding visit_fault
    visit_late z = at_fault Faults.Late (rw (← e, z)) (omega arith)

    pub visit_kept : (u : Trip) → late ≡ false → u ≡ visited day t place
        → DrivesTo (visit_fault day t place) (visited day t place) (Ok u)
    unfolding visit_fault
    visit_kept u z eu = record { fault_is = sym (rw (← e, z)); trip_is = λ f. eu }

  -- the earliest start of a rest, as the window gives it
  module _ (hours : Window) {start : ℕ} (opens : hours.opening ≡ rest_opening day) (closes : hours.closing ≡ rest_closing day)
      (e : start ≡ max t.minute hours.opening) where
    rest_starts : start ≡ rest_start day t
    rest_starts = e ∙ rw opens

    pub rest_late : t.rested ≡ false → hours.closing < start → DrivesTo (rest_fault day t) (rested_at day t) (Err Faults.Rest)
    unfolding rest_fault
    rest_late first late = at_fault Faults.Rest (rw (first, lt-ltb _ _ (rw (closes, rest_starts) at late))) (omega arith)

    pub rest_kept : {minutes : ℕ} → t.rested ≡ false → start ≤ hours.closing → minutes ≡ rest_minutes day
        → DrivesTo (rest_fault day t) (rested_at day t)
        (Ok (record { minute = start + minutes; place = t.place; rested = true; distance = t.distance }))
    unfolding rest_fault
    rest_kept first kept m =
        record {
          fault_is = sym (rw (first, le-ltb _ _ (rw (closes, rest_starts) at kept)));
          trip_is = λ z. rw (rest_starts, m);
        }

  pub rest_again : t.rested ≡ true → DrivesTo (rest_fault day t) (rested_at day t) (Err Faults.Rest)
  unfolding rest_fault
  rest_again again = at_fault Faults.Rest (rw again) (omega arith)

  -- back at the depot
  module _ (leg : Leg) (hours : Window) (l : LegOf day t.place 0 leg) (h : WindowOf day 0 hours) where
    abbrev home : Trip
    home = driven day t 0 (arrival day t 0)

    pub back_late : hours.closing < t.minute + leg.minutes → DrivesTo (back_fault day t) home (Err Faults.Late)
    unfolding back_fault
    back_late late = at_fault Faults.Late (rw (lt-ltb _ _ (rw (h.closes, l.takes) at late))) (omega arith)

    module _ (u : Bool) (in-time : t.minute + leg.minutes ≤ hours.closing)
        (unrested : u ≡ (not t.rested && ltb (rest_closing day) (t.minute + leg.minutes))) where
      back_fault_lem : back_fault day t ≡ (if u then 12 else 0)
      unfolding back_fault
      back_fault_lem = rw (le-ltb _ _ (rw (h.closes, l.takes) at in-time), unrested, l.takes) (by_rest t.rested (ltb (rest_closing day) (arrival day t 0)))
        where
          by_rest : (rested late : Bool) → ◌≡◌ {A = ℕ} (if rested then 0 else if late then 12 else 0) (if not rested && late then 12 else 0)
          by_rest true late = refl
          by_rest false late = refl

      pub back_unrested : u ≡ true → DrivesTo (back_fault day t) home (Err Faults.Rest)
      back_unrested e = at_fault Faults.Rest (back_fault_lem ∙ rw e) (omega arith)

      pub back_kept : u ≡ false
          → DrivesTo (back_fault day t) home
          (Ok (record { minute = t.minute + leg.minutes; place = 0; rested = t.rested; distance = t.distance + leg.distance }))
      back_kept e = record { fault_is = sym (back_fault_lem ∙ rw e); trip_is = λ z. rw (l.takes, l.spans) }
