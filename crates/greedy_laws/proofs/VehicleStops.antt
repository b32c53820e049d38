-- Which stops a vehicle of the greedy build routes: new ones of the day, which are those of its tasks. The day may be any list of words.
-- Assumes nothing.
use Prim.Native.Nat.{ℕ, ◌+◌}
use mathlib.Core.Path.{◌≡◌, refl, sym, ap, ◌∙◌}
use mathlib.Core.Bool.{true, false}
use mathlib.Core.List.{List, [], ◌∷◌, append-nil}
use native.Mathlib.Omega.{arith}
use lib.ListN.{length, length-append}
use Rattle.rules.specs.Lists.{Every, unmet}
use Rattle.rules.specs.Fields.{stops}
use Rattle.rules.specs.Plan.{Task, serve, empty, lunch, stops_on, stops_on_all, Known, word_for}
use Rattle.rules.specs.Cargo.{cargo_after}
use Rattle.rules.specs.Check.{met_after}
use Rattle.rules.specs.Home.{due}
use Rattle.rules.specs.Build.{Truck, fresh, doing, one_vehicle, resting}
use Rattle.rules.specs.declared.walk.Cargo.{Cargo}
use Rattle.laws.specs.Lists.{collect, Fresh}
use Rattle.laws.proofs.Fresh.{collect_append, fresh_append, fresh_length, every_append}
use Rattle.laws.proofs.Plan.{stops_append}
use Rattle.plan_laws.proofs.Theorems.{known_all}
use Rattle.greedy_laws.specs.Reached.{Reached}
use Rattle.greedy_laws.proofs.Driving.{reached_keeps, vehicle_keeps, resting_keeps}
use Rattle.greedy_laws.proofs.NextTasks.{IsNext, serves, empties}

-- a task adds its stop, where it has one
met_task : (met : List ℕ) (task : Task) → met_after met (word_for task) ≡ collect met (stops_on (task ∷ []))
unfolding met_after collect stops_on
met_task met (serve k) = refl
met_task met (empty k) = refl
met_task met lunch = refl

-- and counts it
pub visits_task : (day : List ℕ) (c : Cargo) (task : Task) → (cargo_after day c (word_for task)).visits ≡ c.visits + length (stops_on (task ∷ []))
unfolding cargo_after stops_on
visits_task day c (serve k) = refl
visits_task day c (empty k) = omega arith
visits_task day c lunch = omega arith

-- the next task's stop is new, and its number is known
pub next_new : (day : List ℕ) (v : Truck) (task : Task) → IsNext day v task → Fresh v.taken (stops_on (task ∷ []))
unfolding Fresh stops_on
next_new day v task (serves k c s) = (c.new, tt)
next_new day v task (empties x l e o) = tt

pub next_known : (day : List ℕ) (v : Truck) (task : Task) → IsNext day v task → Every (Known day) (task ∷ [])
unfolding Every Known
next_known day v task (serves k c s) = ((c.first, c.within), tt)
next_known day v task (empties x l e o) = ((o.first, o.within), tt)

-- a vehicle that set out when some stops were routed: its own stops were new, and are counted and routed with those
pub record Routes (day before : List ℕ) (v : Truck) : Type 0 where
  pub taken : v.taken ≡ collect before (stops_on v.tasks)
  pub visits : v.cargo.visits ≡ length (stops_on v.tasks)
  pub new : Fresh before (stops_on v.tasks)
  pub known : Every (Known day) v.tasks

-- its stops are no longer missing
pub routes_unmet : (day before : List ℕ) (v : Truck) → Routes day before v
    → v.cargo.visits + unmet (stops day) v.taken ≡ unmet (stops day) before
unfolding Every stops_on_all
routes_unmet day before v r =
    let known = known_all day (v.tasks ∷ []) (r.known, tt) in
    rw (r.visits, r.taken) (fresh_length (stops day) before (stops_on v.tasks) (rw append-nil at known) r.new)

module _ (day before : List ℕ) where
  routes_fresh : Routes day before (fresh day before)
  unfolding stops_on collect Fresh Every
  routes_fresh = record { taken = refl; visits = refl; new = tt; known = tt }

  routes_doing : (v : Truck) (task : Task) → Fresh v.taken (stops_on (task ∷ [])) → Every (Known day) (task ∷ [])
      → Routes day before v → Routes day before (doing day v task)
  routes_doing v task n k r =
      let named = stops_append v.tasks (task ∷ []) in
      record {
        taken =
            met_task v.taken task
            ∙ ap (λ (met : List ℕ). collect met (stops_on (task ∷ []))) r.taken
            ∙ sym (ap (collect before) named ∙ collect_append before (stops_on v.tasks) (stops_on (task ∷ [])));
        visits =
            omega (arith, visits_task day v.cargo task, r.visits, ap length named, length-append (stops_on v.tasks) (stops_on (task ∷ [])));
        new = rw named (fresh_append before (stops_on v.tasks) (stops_on (task ∷ [])) r.new (rw r.taken at n));
        known = every_append (Known day) v.tasks (task ∷ []) r.known k;
      }

  -- so it is of every vehicle that the build reaches, and of each at its end
  rests : (v : Truck) → due day v.trip ≡ true → Routes day before v → Routes day before (doing day v lunch)
  unfolding Fresh stops_on Every Known
  rests v e = routes_doing v lunch tt (tt, tt)

  does : (v : Truck) (task : Task) → due day v.trip ≡ false → IsNext day v task
      → Routes day before v → Routes day before (doing day v task)
  does v task e n = routes_doing v task (next_new day v task n) (next_known day v task n)

  pub reached_routes : (v : Truck) → Reached day before v → Routes day before v
  reached_routes v = reached_keeps day (Routes day before) rests does before v routes_fresh

  pub rested_routes : (v : Truck) → Reached day before v → Routes day before (resting day v)
  rested_routes v h = resting_keeps day (Routes day before) rests v (reached_routes v h)

  pub vehicle_routes : Routes day before (one_vehicle day before)
  vehicle_routes = vehicle_keeps day (Routes day before) rests does before routes_fresh
