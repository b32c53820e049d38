-- The numbers of every vehicle that the build reaches are small, so that no sum of the code wraps: a stop or a tip is started by its
-- closing and a rest by R2, so minutes are bounded afresh by each task, and loads by the day's limits.
-- Assumes nothing.
use Prim.Native.Nat.{ℕ}
use mathlib.Core.Path.{◌≡◌}
use mathlib.Core.Bool.{true, false, not}
use mathlib.Core.List.{List, [], ◌∷◌}
use native.Mathlib.Omega.{arith}
use lib.ListN.{length, length-append}
use borrow.Author.Tests.{not-true}
use Rattle.rules.specs.Fields.{stop_place}
use Rattle.rules.specs.Plan.{Task, serve, empty, lunch}
use Rattle.rules.specs.Cargo.{over_limits, cargo_after}
use Rattle.rules.specs.Trip.{visited}
use Rattle.rules.specs.Home.{due, way_home}
use Rattle.rules.specs.Choice.{taking, suits}
use Rattle.rules.specs.Build.{Truck, fresh, doing, resting}
use Rattle.rules.specs.declared.walk.Cargo.{Cargo}
use Rattle.laws.proofs.Tests.{both_true}
use Rattle.plan_laws.proofs.Theorems.{not_over}
use Rattle.trips.specs.Trips.{CargoWithin, TripWithin}
use Rattle.greedy_laws.specs.Reached.{Reached}
use Rattle.greedy_laws.proofs.Driving.{reached_keeps, resting_keeps}
use Rattle.greedy_laws.proofs.NextTasks.{IsNext, serves, empties}
use Rattle.greedy_laws.proofs.WaysHome.{due_true}

-- a truck's trip and cargo are small, the distance by the tasks done
pub record SmallTruck (day : List ℕ) (v : Truck) : Type 0 where
  pub trip : TripWithin day (length v.tasks) v.trip
  pub cargo : CargoWithin v.cargo

module _ (day : List ℕ) where
  small_fresh : (before : List ℕ) → SmallTruck day (fresh day before)
  small_fresh before =
      record {
        trip = record { place = omega arith; minute = omega arith; distance = omega arith };
        cargo = record { load = omega arith; kg = omega arith; visits = omega arith };
      }

  small_rest : (v : Truck) → due day v.trip ≡ true → SmallTruck day v → SmallTruck day (doing day v lunch)
  unfolding cargo_after
  small_rest v e h =
      let d = due_true day v.trip e in
      record {
        trip =
            record {
              place = h.trip.place;
              minute = omega (arith, d.opened, d.not_closed);
              distance = omega (arith, h.trip.distance, length-append v.tasks (lunch ∷ []));
            };
        cargo = h.cargo;
      }

  -- within the limits, what is carried is small
  within_limits : (c : Cargo) → over_limits day c ≡ false → CargoWithin c
  within_limits c e =
      let l = not_over day c e in
      record { load = omega (arith, l.load); kg = omega (arith, l.kg); visits = omega (arith, l.visits) }

  small_next : (v : Truck) (task : Task) → due day v.trip ≡ false → IsNext day v task → SmallTruck day v → SmallTruck day (doing day v task)
  unfolding suits cargo_after
  small_next v task e (serves k c s) h =
      let next = taking day v.cargo k in
      let fits = both_true (not (over_limits day next)) (way_home day (visited day v.trip (stop_place day k)) next.load) s.suited in
      record {
        trip =
            record {
              place = omega (arith, c.within);
              minute = omega (arith, s.start);
              distance = omega (arith, h.trip.distance, length-append v.tasks (serve k ∷ []));
            };
        cargo = within_limits next (not-true _ fits.0);
      }
  small_next v task e (empties x l q o) h =
      record {
        trip =
            record {
              place = omega (arith, o.within);
              minute = omega (arith, o.not_closed);
              distance = omega (arith, h.trip.distance, length-append v.tasks (empty x ∷ []));
            };
        cargo = record { load = omega arith; kg = h.cargo.kg; visits = h.cargo.visits };
      }

  module _ (before : List ℕ) where
    pub reached_small : (v : Truck) → Reached day before v → SmallTruck day v
    reached_small v = reached_keeps day (SmallTruck day) small_rest small_next before v (small_fresh before)

    pub rested_small : (v : Truck) → Reached day before v → SmallTruck day (resting day v)
    rested_small v h = resting_keeps day (SmallTruck day) small_rest v (reached_small v h)
