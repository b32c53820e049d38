-- How many words the greedy plan has: a vehicle visits no more tips than stops and rests at most once, so five words for each stop are
-- enough. The day may be any list of words.
-- Assumes nothing.
use Rattle.std.specs.Prelude.{if◌then◌else◌}
use Prim.Native.Nat.{ℕ, suc, ◌+◌, ◌*◌, ◌≤◌, ◌<◌}
use mathlib.Core.Path.{◌≡◌, refl}
use mathlib.Core.Bool.{true, false}
use mathlib.Core.List.{List, [], ◌∷◌, ◌++◌, map}
use native.Mathlib.Omega.{arith}
use lib.Dec.{ltb}
use lib.ListN.{length, length-append, length-map}
use borrow.Author.Tests.{lt-ltb}
use Rattle.rules.specs.Lists.{Every, total}
use Rattle.rules.specs.Fields.{stops}
use Rattle.rules.specs.PlanWords.{left_word}
use Rattle.rules.specs.Plan.{Task, serve, empty, lunch, Round, round_words, rounds_words, plan_words, stops_on, stops_on_all}
use Rattle.rules.specs.Lawful.{rests_in}
use Rattle.rules.specs.Cargo.{cargo_after}
use Rattle.rules.specs.Home.{due}
use Rattle.rules.specs.Build.{Truck, fresh, doing, one_vehicle, greedy_rounds, greedy_lefts, greedy_plan, resting}
use Rattle.plan_laws.proofs.Theorems.{round_length}
use Rattle.day.specs.Layout.{LayoutOf}
use Rattle.day.specs.declared.fields.Layout.{Layout}
use Rattle.greedy_laws.specs.Reached.{Reached}
use Rattle.greedy_laws.specs.Rooms.{empties_in, Paid, Room}
use Rattle.laws.proofs.Decided.{bit_most}
use Rattle.greedy_laws.proofs.Driving.{reached_keeps, vehicle_keeps, resting_keeps}
use Rattle.greedy_laws.proofs.Fleets.{fleet_every}
use Rattle.greedy_laws.proofs.GreedyForm.{greedy_busy, greedy_named}
use Rattle.greedy_laws.proofs.NextTasks.{IsNext, serves, empties}
use Rattle.greedy_laws.proofs.VehicleStops.{reached_routes, vehicle_routes, rested_routes}
use Rattle.greedy_laws.proofs.WaysHome.{due_true}

-- a vehicle's tasks are stops, tips and rests
pub tasks_counted : (tasks : Round) → length tasks ≡ length (stops_on tasks) + empties_in tasks + rests_in tasks
unfolding stops_on empties_in rests_in
tasks_counted [] = refl
tasks_counted (serve k ∷ tasks) = omega (arith, tasks_counted tasks)
tasks_counted (empty k ∷ tasks) = omega (arith, tasks_counted tasks)
tasks_counted (lunch ∷ tasks) = omega (arith, tasks_counted tasks)

pub empties_append : (xs ys : Round) → empties_in (xs ++ ys) ≡ empties_in xs + empties_in ys
unfolding empties_in
empties_append [] ys = omega arith
empties_append (serve k ∷ xs) ys = empties_append xs ys
empties_append (empty k ∷ xs) ys = omega (arith, empties_append xs ys)
empties_append (lunch ∷ xs) ys = empties_append xs ys

rests_append : (xs ys : Round) → rests_in (xs ++ ys) ≡ rests_in xs + rests_in ys
unfolding rests_in
rests_append [] ys = omega arith
rests_append (serve k ∷ xs) ys = rests_append xs ys
rests_append (empty k ∷ xs) ys = rests_append xs ys
rests_append (lunch ∷ xs) ys = omega (arith, rests_append xs ys)

module _ (day : List ℕ) where
  pub paid_rest : (v : Truck) → due day v.trip ≡ true → Paid v → Paid (doing day v lunch)
  unfolding empties_in rests_in cargo_after
  paid_rest v e p =
      let unfed : ◌≡◌ {A = ℕ} (if v.trip.rested then 1 else 0) 0 = rw (due_true day v.trip e).unfed refl in
      record {
        tips = omega (arith, p.tips, empties_append v.tasks (lunch ∷ []));
        rests = omega (arith, p.rests, rests_append v.tasks (lunch ∷ []));
      }

  pub paid_serve : (v : Truck) (k : ℕ) → Paid v → Paid (doing day v (serve k))
  unfolding empties_in rests_in cargo_after
  paid_serve v k p =
      record {
        tips = omega (arith, p.tips, empties_append v.tasks (serve k ∷ []), bit_most (ltb 0 (doing day v (serve k)).cargo.load));
        rests = omega (arith, p.rests, rests_append v.tasks (serve k ∷ []));
      }

  pub paid_empty : (v : Truck) (x : ℕ) → 0 < v.cargo.load → Paid v → Paid (doing day v (empty x))
  unfolding empties_in rests_in cargo_after
  paid_empty v x l p =
      record {
        tips = omega (arith, rw (lt-ltb 0 v.cargo.load l) at p.tips, empties_append v.tasks (empty x ∷ []));
        rests = omega (arith, p.rests, rests_append v.tasks (empty x ∷ []));
      }

  paid_next : (v : Truck) (task : Task) → due day v.trip ≡ false → IsNext day v task → Paid v → Paid (doing day v task)
  paid_next v task e (serves k c s) p = paid_serve v k p
  paid_next v task e (empties x l q o) p = paid_empty v x l p

  pub paid_fresh : (before : List ℕ) → Paid (fresh day before)
  unfolding empties_in rests_in
  paid_fresh before = record { tips = omega arith; rests = refl }

  module _ (before : List ℕ) where
    pub reached_paid : (v : Truck) → Reached day before v → Paid v
    reached_paid v = reached_keeps day Paid paid_rest paid_next before v (paid_fresh before)

    pub rested_paid : (v : Truck) → Reached day before v → Paid (resting day v)
    rested_paid v h = resting_keeps day Paid paid_rest v (reached_paid v h)

    pub vehicle_paid : Paid (one_vehicle day before)
    vehicle_paid = vehicle_keeps day Paid paid_rest paid_next before (paid_fresh before)

pub paid_room : (v : Truck) → v.cargo.visits ≡ length (stops_on v.tasks) → Paid v → Room v.tasks
paid_room v e p =
    let once = bit_most v.trip.rested in
    record {
      tips = omega (arith, p.tips);
      rests = omega (arith, p.rests);
      size = omega (arith, p.tips, p.rests, tasks_counted v.tasks);
    }

module _ (day before : List ℕ) where
  pub reached_room : (v : Truck) → Reached day before v → Room v.tasks
  reached_room v h = paid_room v (reached_routes day before v h).visits (reached_paid day before v h)

  pub rested_room : (v : Truck) → Reached day before v → Room (resting day v).tasks
  rested_room v h = paid_room (resting day v) (rested_routes day before v h).visits (rested_paid day before v h)

  pub vehicle_room : Room (one_vehicle day before).tasks
  vehicle_room = paid_room (one_vehicle day before) (vehicle_routes day before).visits (vehicle_paid day before)

-- the words of vehicles that have a stop each, and of a plan
pub rounds_words_lem : (before : ℕ) (rounds : List Round) → Every Room rounds → Every (λ tasks. 0 < length (stops_on tasks)) rounds
    → length (rounds_words before rounds) ≤ 5 * length (stops_on_all rounds)
unfolding rounds_words stops_on_all Every
rounds_words_lem before [] r b = omega arith
rounds_words_lem before (tasks ∷ rounds) r b =
    omega (
      arith,
      b.0,
      r.0.size,
      round_length (suc before) tasks,
      rounds_words_lem (suc before) rounds r.1 b.1,
      length-append (round_words (suc before) tasks) (rounds_words (suc before) rounds),
      length-append (stops_on tasks) (stops_on_all rounds),
    )

pub plan_length : (rounds : List Round) (lefts : List ℕ) → length (plan_words rounds lefts) ≡ length (rounds_words 0 rounds) + length lefts
unfolding plan_words
plan_length rounds lefts = omega (arith, length-append (rounds_words 0 rounds) (map left_word lefts), length-map lefts left_word)

-- the vehicles of a plan visit no more tips than stops
pub rounds_tips : (rounds : List Round) → Every Room rounds → total empties_in rounds ≤ length (stops_on_all rounds)
unfolding total stops_on_all Every
rounds_tips [] r = omega arith
rounds_tips (tasks ∷ rounds) r = omega (arith, r.0.tips, rounds_tips rounds r.1, length-append (stops_on tasks) (stops_on_all rounds))

module _ (day : List ℕ) where
  pub greedy_rooms : Every Room (greedy_rounds day)
  greedy_rooms = fleet_every day Room (λ before l. vehicle_room day before) (stops day + 1) []

  pub greedy_tips : total empties_in (greedy_rounds day) ≤ length (stops_on_all (greedy_rounds day))
  greedy_tips = rounds_tips (greedy_rounds day) greedy_rooms

  -- 5n words are enough
  pub greedy_room : length (greedy_plan day) ≤ 5 * stops day
  unfolding greedy_plan
  greedy_room =
      omega (
        arith,
        plan_length (greedy_rounds day) (greedy_lefts day),
        rounds_words_lem 0 (greedy_rounds day) greedy_rooms (greedy_busy day),
        greedy_named day,
      )
