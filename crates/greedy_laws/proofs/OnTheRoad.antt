-- A vehicle of the greedy build on its way: its tasks so far have no fault, and it can come home. So a loaded vehicle always has an open
-- tip, and the vehicle is clear in the end.
-- Assumes nothing.
use Prim.Native.Nat.{ℕ, ◌<◌}
use mathlib.Core.Path.{◌≡◌, refl, ◌∙◌}
use mathlib.Core.Bool.{true, false, not}
use mathlib.Core.List.{List, [], ◌∷◌, ◌++◌, append-nil}
use mathlib.Core.Logic.{inl, inr}
use native.Mathlib.Nat.{eq-zero-or-pos}
use native.Mathlib.Omega.{arith}
use lib.Seq.{append_snoc}
use borrow.Author.Tests.{not-true, le-ltb}
use Rattle.rules.specs.Fields.{stop_place, closing, IsAccepted}
use Rattle.rules.specs.Plan.{Task, serve, empty, lunch, Round, word_for}
use Rattle.rules.specs.Cargo.{over_limits, cargo_fault, cargo_after}
use Rattle.rules.specs.Cargo as Carried
use Rattle.rules.specs.Trip.{leaving, visit_start, visited, visit_fault, trip_fault}
use Rattle.rules.specs.Home.{nearest_tip, due, way_home}
use Rattle.rules.specs.Choice.{taking, suits}
use Rattle.rules.specs.Build.{Truck, fresh, doing, resting, one_vehicle}
use Rattle.laws.proofs.Tests.{both_true}
use Rattle.day.proofs.Ranges.{accepted_ranges}
use Rattle.plan_laws.specs.Vehicles.{CargoClear, TripClear, Clear}
use Rattle.greedy_laws.specs.Reached.{Reached}
use Rattle.greedy_laws.proofs.Driving.{Ended, resting_done, resting_keeps, reached_keeps, vehicle_keeps, vehicle_ended}
use Rattle.greedy_laws.proofs.NextTasks.{IsNext, serves, empties, next_none}
use Rattle.greedy_laws.proofs.WaysHome.{due_fault, way_home_rested, way_home_loaded, way_home_empty}

-- the vehicle on its way: what has no fault from here on has none from the depot on; there is a way home once it has a stop
pub record OnTheRoad (day : List ℕ) (v : Truck) : Type 0 where
  pub cargo : (behind : Round) → CargoClear day v.cargo behind → CargoClear day Carried.empty (v.tasks ++ behind)
  pub trip : (behind : Round) → TripClear day v.trip behind → TripClear day (leaving day) (v.tasks ++ behind)
  pub home : 0 < v.cargo.visits → way_home day v.trip v.cargo.load ≡ true
  pub idle : v.cargo.visits ≡ 0 → v.cargo.load ≡ 0

pub road_fresh : (day taken : List ℕ) → OnTheRoad day (fresh day taken)
road_fresh day taken = record { cargo = λ behind x. x; trip = λ behind x. x; home = λ z. absurd (omega arith); idle = λ _. refl }

module _ (day : List ℕ) (v : Truck) (r : OnTheRoad day v) where
  -- it does a task that has no fault
  road_doing : (task : Task) → cargo_fault day v.cargo (word_for task) ≡ 0 → trip_fault day v.trip (word_for task) ≡ 0
      → (0 < (doing day v task).cargo.visits → way_home day (doing day v task).trip (doing day v task).cargo.load ≡ true)
      → ((doing day v task).cargo.visits ≡ 0 → (doing day v task).cargo.load ≡ 0)
      → OnTheRoad day (doing day v task)
  unfolding CargoClear TripClear
  road_doing task f g h s =
      record {
        cargo = λ behind x. rw (append_snoc v.tasks task behind) (r.cargo (task ∷ behind) (f, x));
        trip = λ behind x. rw (append_snoc v.tasks task behind) (r.trip (task ∷ behind) (g, x));
        home = h;
        idle = s;
      }

  -- with a load and no rest due, there is an open tip, and a way home from it
  pub road_loaded : due day v.trip ≡ false → 0 < v.cargo.load
      → (0 < nearest_tip day v.trip.place v.trip.minute)
      × (way_home day (visited day v.trip (nearest_tip day v.trip.place v.trip.minute)) 0 ≡ true)
  road_loaded e l =
      let busy : 0 < v.cargo.visits = elim (eq-zero-or-pos v.cargo.visits) [ inl z ↦ absurd (omega (arith, r.idle z)) | inr p ↦ p ] in
      way_home_loaded day v.trip v.cargo.load e l (r.home busy)

-- a rest that is due, and the next task of an accepted day's vehicle
pub road_rest : (day : List ℕ) (v : Truck) → due day v.trip ≡ true → OnTheRoad day v → OnTheRoad day (doing day v lunch)
unfolding cargo_fault cargo_after
road_rest day v e r =
    road_doing day v r lunch refl (due_fault day v.trip e) (λ l. way_home_rested day v.trip v.cargo.load e ∙ r.home l) r.idle

pub road_next : (day : List ℕ) → IsAccepted day → (v : Truck) (task : Task) → due day v.trip ≡ false → IsNext day v task
    → OnTheRoad day v → OnTheRoad day (doing day v task)
unfolding suits cargo_fault visit_fault cargo_after
road_next day a v task e (serves k c s) r =
    let place = stop_place day k in
    let next = taking day v.cargo k in
    let order = (accepted_ranges day a).window_order place (omega (arith, c.within)) in
    let p = both_true (not (over_limits day next)) (way_home day (visited day v.trip place) next.load) s.suited in
    road_doing day v r (serve k)
    (rw (not-true (over_limits day next) p.0))
    (rw (le-ltb (closing day place) (visit_start day v.trip place) (omega (arith, s.start))))
    (λ _. p.1)
    (λ z. absurd (omega arith))
road_next day a v task e (empties x l q o) r =
    road_doing day v r (empty x) refl
    (rw (le-ltb (closing day x) (visit_start day v.trip x) (omega (arith, o.opened, o.not_closed))))
    (λ _. rw q (road_loaded day v r e l).1)
    (λ _. refl)

-- so every vehicle that the build of an accepted day reaches is on the road, and each at its end
module _ (day : List ℕ) (a : IsAccepted day) (before : List ℕ) where
  pub reached_road : (v : Truck) → Reached day before v → OnTheRoad day v
  reached_road v = reached_keeps day (OnTheRoad day) (road_rest day) (road_next day a) before v (road_fresh day before)

  pub vehicle_road : OnTheRoad day (one_vehicle day before)
  vehicle_road = vehicle_keeps day (OnTheRoad day) (road_rest day) (road_next day a) before (road_fresh day before)

  -- wherever n(r,T) is asked for, with a load and after the rest, there is an open tip
  pub tip_exists : (v : Truck) → Reached day before v → 0 < (resting day v).cargo.load
      → 0 < nearest_tip day (resting day v).trip.place (resting day v).trip.minute
  tip_exists v r l =
      let rested = resting_keeps day (OnTheRoad day) (road_rest day) v (reached_road v r) in
      (road_loaded day (resting day v) rested (resting_done day v) l).0

-- a vehicle that has no next task and no rest due is empty, and clear if it has a stop
pub ended_empty : (day : List ℕ) (v : Truck) → OnTheRoad day v → Ended day v → v.cargo.load ≡ 0
ended_empty day v r e = elim (eq-zero-or-pos v.cargo.load) [
  | inl z ↦ z
  | inr l ↦ absurd (omega (arith, (road_loaded day v r e.not_due l).0, (next_none day v e.no_task).no_tip l))
]

pub ended_clear : (day : List ℕ) (v : Truck) → OnTheRoad day v → Ended day v → 0 < v.cargo.visits → Clear day v.tasks
unfolding CargoClear TripClear cargo_fault
ended_clear day v r e l =
    let z = ended_empty day v r e in
    record {
      cargo = rw append-nil at (r.cargo [] (rw z refl));
      trip = rw append-nil at (r.trip [] (way_home_empty day v.trip e.not_due (rw z at (r.home l))));
    }

pub vehicle_clear : (day taken : List ℕ) → IsAccepted day → 0 < (one_vehicle day taken).cargo.visits → Clear day (one_vehicle day taken).tasks
vehicle_clear day taken a = ended_clear day (one_vehicle day taken) (vehicle_road day a taken) (vehicle_ended day taken)
