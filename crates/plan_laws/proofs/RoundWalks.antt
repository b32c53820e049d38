-- What a walk is after a vehicle, and after several: counts, distance and the stops met.
-- Assumes nothing.
use Prim.Native.Nat.{ℕ, ◌+◌}
use mathlib.Core.Path.{◌≡◌, refl, sym, ap, ◌∙◌}
use mathlib.Core.Bool.{false}
use mathlib.Core.List.{List, [], ◌∷◌}
use native.Mathlib.Omega.{arith}
use lib.ListN.{length, length-append}
use Rattle.rules.specs.Lists.{total}
use Rattle.rules.specs.PlanWords.{vehicle, back}
use Rattle.rules.specs.Plan.{serve, empty, lunch, Round, stops_on, stops_on_all, word_for}
use Rattle.rules.specs.Trip.{leaving, trip_after}
use Rattle.rules.specs.Check.{Walk, met_after, tally_after, walk_after}
use Rattle.rules.specs.declared.walk.Trip.{Trip}
use Rattle.laws.specs.Lists.{collect}
use Rattle.laws.proofs.Fresh.{collect_append}
use Rattle.plan_laws.specs.Vehicles.{trip_home, walk_tasks, walk_round, walk_rounds}

-- what changes on the way through a vehicle's tasks
record AfterTasks (day : List ℕ) (s : Walk) (tasks : Round) (t : Walk) : Type 0 where
  vehicles : t.tally.vehicles ≡ s.tally.vehicles
  served : t.tally.served ≡ s.tally.served + length (stops_on tasks)
  last : t.tally.last ≡ s.tally.last
  distance : t.tally.distance ≡ s.tally.distance
  met : t.met ≡ collect s.met (stops_on tasks)
  home : trip_after day t.trip back ≡ trip_home day s.trip tasks

after_tasks : (day : List ℕ) (s : Walk) (tasks : Round) → AfterTasks day s tasks (walk_tasks day s tasks)
unfolding walk_tasks stops_on collect trip_home met_after tally_after
after_tasks day s [] = record { vehicles = refl; served = omega arith; last = refl; distance = refl; met = refl; home = refl }
after_tasks day s (serve k ∷ tasks) =
    let r = after_tasks day (walk_after day s (word_for (serve k))) tasks in
    record { vehicles = r.vehicles; served = omega (arith, r.served); last = r.last; distance = r.distance; met = r.met; home = r.home }
after_tasks day s (empty k ∷ tasks) =
    let r = after_tasks day (walk_after day s (word_for (empty k))) tasks in
    record { vehicles = r.vehicles; served = r.served; last = r.last; distance = r.distance; met = r.met; home = r.home }
after_tasks day s (lunch ∷ tasks) =
    let r = after_tasks day (walk_after day s (word_for lunch)) tasks in
    record { vehicles = r.vehicles; served = r.served; last = r.last; distance = r.distance; met = r.met; home = r.home }

-- what changes by a vehicle that leaves and comes back
pub record AfterRound (day : List ℕ) (s : Walk) (tasks : Round) (t : Walk) : Type 0 where
  pub outside : t.tally.inside ≡ false
  pub vehicles : t.tally.vehicles ≡ s.tally.vehicles + 1
  pub served : t.tally.served ≡ s.tally.served + length (stops_on tasks)
  pub last : t.tally.last ≡ s.tally.last
  pub distance : t.tally.distance ≡ s.tally.distance + (trip_home day (leaving day) tasks).distance
  pub met : t.met ≡ collect s.met (stops_on tasks)

pub after_round : (day : List ℕ) (s : Walk) (tasks : Round) → AfterRound day s tasks (walk_round day s tasks)
unfolding walk_round met_after tally_after
after_round day s tasks =
    let r = after_tasks day (walk_after day s (vehicle (s.tally.vehicles + 1))) tasks in
    record {
      outside = refl;
      vehicles = r.vehicles;
      served = r.served;
      last = r.last;
      distance = omega (arith, r.distance, ap (λ (t : Trip). t.distance) r.home);
      met = r.met;
    }

-- what changes by several
pub record AfterRounds (day : List ℕ) (s : Walk) (rounds : List Round) (t : Walk) : Type 0 where
  pub outside : t.tally.inside ≡ false
  pub vehicles : t.tally.vehicles ≡ s.tally.vehicles + length rounds
  pub served : t.tally.served ≡ s.tally.served + length (stops_on_all rounds)
  pub last : t.tally.last ≡ s.tally.last
  pub distance : t.tally.distance ≡ s.tally.distance + total (λ tasks. (trip_home day (leaving day) tasks).distance) rounds
  pub met : t.met ≡ collect s.met (stops_on_all rounds)

pub after_rounds : (day : List ℕ) (s : Walk) (rounds : List Round) → s.tally.inside ≡ false → AfterRounds day s rounds (walk_rounds day s rounds)
unfolding walk_rounds stops_on_all collect total
after_rounds day s [] e = record { outside = e; vehicles = omega arith; served = omega arith; last = refl; distance = omega arith; met = refl }
after_rounds day s (tasks ∷ rounds) e =
    let r = after_round day s tasks in
    let q = after_rounds day (walk_round day s tasks) rounds r.outside in
    record {
      outside = q.outside;
      vehicles = omega (arith, q.vehicles, r.vehicles);
      served = omega (arith, q.served, r.served, length-append (stops_on tasks) (stops_on_all rounds));
      last = q.last ∙ r.last;
      distance = omega (arith, q.distance, r.distance);
      met = q.met ∙ rw r.met (sym (collect_append s.met (stops_on tasks) (stops_on_all rounds)));
    }
