-- When a vehicle is where: no task of a round, and not its return, is at fault by the minute exactly where the vehicle is in time at its
-- earliest minutes and takes at most one rest. Also the distance driven.
-- Assumes nothing.
use Rattle.std.specs.Prelude.{if◌then◌else◌}
use Prim.Native.Nat.{ℕ, ◌+◌, ◌≤◌, ◌<◌, max, min}
use mathlib.Core.Path.{◌≡◌, refl}
use mathlib.Core.Bool.{Bool, true, false}
use mathlib.Core.List.{List, [], ◌∷◌}
use mathlib.Core.Logic.{◌↔◌}
use native.Mathlib.Nat.{add-zero}
use native.Mathlib.Omega.{arith}
use lib.Dec.{ltb}
use borrow.Author.Tests.{ltb-false, le-ltb}
use Rattle.rules.specs.Fields.{stop_place, closing, rest_closing}
use Rattle.rules.specs.Plan.{serve, empty, lunch, Round}
use Rattle.rules.specs.Timetable.{InTime, calls}
use Rattle.rules.specs.Lawful.{rests_in, distance_from}
use Rattle.rules.specs.Trip.{leaving, arrival, visit_start, rest_start, visited, rested_at, visit_fault, rest_fault, back_fault}
use Rattle.rules.specs.declared.walk.Trip.{Trip}
use Rattle.laws.proofs.Tests.{only_second}
use Rattle.plan_laws.specs.Vehicles.{TripClear, trip_home}

-- a test of a limit finds no fault exactly where the number is within it, and what is tested next finds none either
limit_iff : (fault limit x : ℕ) {next : ℕ} → 0 < fault → ((if ltb limit x then fault else next) ≡ 0) ↔ ((x ≤ limit) × (next ≡ 0))
limit_iff fault limit x h = (
  λ e. let a = only_second (ltb limit x) (λ z. omega arith) e in (ltb-false limit x a.0, a.1),
  λ y. rw (le-ltb limit x y.0) y.1,
)

-- a visit has no fault exactly where it is in time at its earliest minute
visit_iff : (day : List ℕ) (t : Trip) (place : ℕ) → (visit_fault day t place ≡ 0) ↔ (visit_start day t place + 0 ≤ closing day place)
unfolding visit_fault
visit_iff day t place =
    let l = limit_iff 11 (closing day place) (visit_start day t place) (omega arith) in
    (λ e. omega (arith, (l.0 e).0), λ h. l.1 (omega arith, refl))

-- the same of a rest, for a vehicle that had none
rest_iff : (day : List ℕ) (t : Trip) → (rest_fault day t ≡ 0) ↔ ((t.rested ≡ false) × (rest_start day t + 0 ≤ rest_closing day))
unfolding rest_fault
rest_iff day t =
    let l = limit_iff 12 (rest_closing day) (rest_start day t) (omega arith) in (
      λ e. let first = only_second t.rested (λ z. omega arith) e in (first.0, omega (arith, (l.0 first.1).0)),
      λ y. rw y.0 (l.1 (omega (arith, y.1), refl)),
    )

-- the same of the return: by the depot's closing, and without a rest by the rest window's
abbrev home_fault : Bool → ℕ → ℕ → ℕ → ℕ
home_fault rested depot window x = if ltb depot x then 11 else if rested then 0 else if ltb window x then 12 else 0

home_iff : (rested : Bool) (depot window x : ℕ) → (home_fault rested depot window x ≡ 0) ↔ (max x 0 + 0 ≤ (if rested then depot else min depot window))
home_iff true depot window x =
    let l = limit_iff 11 depot x (omega arith) in
    (λ e. omega (arith, (l.0 e).0), λ h. l.1 (omega arith, refl))
home_iff false depot window x =
    let l = limit_iff 11 depot x (omega arith) in
    let m = limit_iff 12 window x (omega arith) in
    (λ e. let y = l.0 e in omega (arith, y.0, (m.0 y.1).0), λ h. l.1 (omega arith, m.1 (omega arith, refl)))

-- the rests taken so far
abbrev pub rests_taken : Bool → ℕ
rests_taken rested = if rested then 1 else 0

taken_most : (rested : Bool) → rests_taken rested ≤ 1
taken_most true = omega arith
taken_most false = omega arith

none_taken : (rested : Bool) (more : ℕ) → rests_taken rested + (1 + more) ≤ 1 → rested ≡ false
none_taken true more h = absurd (omega arith)
none_taken false more h = refl

-- a trip has no fault by the minute exactly where the vehicle is in time and takes at most one rest
pub trip_iff : (day : List ℕ) (t : Trip) (tasks : Round)
    → TripClear day t tasks ↔ (InTime t.minute (calls day t.place t.rested tasks) × (rests_taken t.rested + rests_in tasks ≤ 1))
unfolding TripClear InTime calls rests_in back_fault
trip_iff day t [] =
    let h = home_iff t.rested (closing day 0) (rest_closing day) (arrival day t 0) in
    (λ x. ((h.0 x, tt), omega (arith, taken_most t.rested)), λ y. h.1 y.0.0)
trip_iff day t (serve k ∷ tasks) =
    let v = visit_iff day t (stop_place day k) in
    let r = trip_iff day (visited day t (stop_place day k)) tasks in
    (λ x. let y = r.0 x.1 in ((v.0 x.0, y.0), y.1), λ y. (v.1 y.0.0, r.1 (y.0.1, y.1)))
trip_iff day t (empty k ∷ tasks) =
    let v = visit_iff day t k in
    let r = trip_iff day (visited day t k) tasks in
    (λ x. let y = r.0 x.1 in ((v.0 x.0, y.0), y.1), λ y. (v.1 y.0.0, r.1 (y.0.1, y.1)))
trip_iff day t (lunch ∷ tasks) =
    let v = rest_iff day t in
    let r = trip_iff day (rested_at day t) tasks in
    rw (add-zero t.minute) (
      λ x. let y = r.0 x.1 in (((v.0 x.0).1, y.0), rw (v.0 x.0).0 (omega (arith, y.1))),
      λ y. (v.1 (none_taken t.rested (rests_in tasks) y.1, y.0.0), r.1 (y.0.1, omega (arith, y.1))),
    )

-- a vehicle that is back has driven the legs from place to place
pub home_distance_from : (day : List ℕ) (t : Trip) (tasks : Round)
    → (trip_home day t tasks).distance ≡ t.distance + distance_from day t.place tasks
unfolding trip_home distance_from
home_distance_from day t [] = refl
home_distance_from day t (serve k ∷ tasks) = omega (arith, home_distance_from day (visited day t (stop_place day k)) tasks)
home_distance_from day t (empty k ∷ tasks) = omega (arith, home_distance_from day (visited day t k) tasks)
home_distance_from day t (lunch ∷ tasks) = home_distance_from day (rested_at day t) tasks

pub home_distance : (day : List ℕ) (tasks : Round) → (trip_home day (leaving day) tasks).distance ≡ distance_from day 0 tasks
home_distance day tasks = omega (arith, home_distance_from day (leaving day) tasks)
