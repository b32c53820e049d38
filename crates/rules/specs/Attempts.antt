-- What a trial gives: document 01, "Trials". The vehicles that it touches are walked again: their tasks come without rests, and rests and
-- tips are put in as they are due. Assumes nothing.
use Rattle.std.specs.Prelude.{ℕ, suc, ◌+◌, Bool, ◌&&◌, List, [], ◌∷◌, ltb, eqb, if◌then◌else◌}
use Rattle.std.proofs.Math.Option.{Option, none, some}
use Rattle.rules.specs.Answers.{is_given}
use Rattle.rules.specs.Lists.{total}
use Rattle.rules.specs.Fields.{stop_place, load_limit, quantity}
use Rattle.rules.specs.Plan.{Task, serve, empty, lunch, Round, plan_words}
use Rattle.rules.specs.Lawful.{distance_from}
use Rattle.rules.specs.Check.{check_words}
use Rattle.rules.specs.Home.{nearest_tip}
use Rattle.rules.specs.Build.{Truck, fresh, doing, resting}
use Rattle.rules.specs.Edits.{Trial, changed, touches}

-- "n(r,T) is inserted, and the trial fails if there is none"; "rest if due after each inserted tip"
unfoldable pub inserting : List ℕ → Truck → ℕ → Option Truck
inserting day v x = if eqb x 0 then none else some (resting day (doing day v (empty x)))

-- the nearest open tip is inserted where it must be
unfoldable pub emptied_first : List ℕ → Bool → Truck → Option Truck
emptied_first day must v = if must then inserting day v (nearest_tip day v.trip.place v.trip.minute) else some v

-- "with load > 0, before a stop that would exceed Q"
unfoldable pub exceeds : List ℕ → Truck → ℕ → Bool
exceeds day v k = ltb 0 v.cargo.load && ltb (load_limit day) (v.cargo.load + quantity day (stop_place day k))

-- the stop is then served; "visits wait for opening"
unfoldable pub serving_then : List ℕ → ℕ → Option Truck → Option Truck
serving_then day k none = none
serving_then day k (some v) = some (doing day v (serve k))

-- one task, the vehicle having rested if due: "a C at load 0 is dropped"
unfoldable pub walk_task : List ℕ → Truck → Task → Option Truck
walk_task day v (serve k) = serving_then day k (emptied_first day (exceeds day v k) v)
walk_task day v (empty x) = some (if ltb 0 v.cargo.load then doing day v (empty x) else v)
walk_task day v lunch = some v

-- "rest if due before each word behind A"
unfoldable pub walk_next : List ℕ → Task → Option Truck → Option Truck
walk_next day task none = none
walk_next day task (some v) = walk_task day (resting day v) task

-- the tasks in order; none once the trial has failed
unfoldable pub walk_on : List ℕ → Round → Option Truck → Option Truck
walk_on day [] o = o
walk_on day (task ∷ tasks) o = walk_on day tasks (walk_next day task o)

-- before E: rest if due, and a tip "with load > 0"
unfoldable pub walk_home : List ℕ → Option Truck → Option Truck
walk_home day none = none
walk_home day (some v) = emptied_first day (ltb 0 (resting day v).cargo.load) (resting day v)

-- what a vehicle has done
unfoldable pub done_by : Option Truck → Option Round
done_by none = none
done_by (some v) = some v.tasks

-- the vehicle's tasks walked again
unfoldable pub walked_again : List ℕ → Round → Option Round
walked_again day tasks = done_by (walk_home day (walk_on day tasks (some (fresh day []))))

-- a vehicle, "walked again" where the trial touches it
unfoldable pub retried : List ℕ → Trial → ℕ → Round → Option Round
retried day m number tasks = if touches m number then walked_again day (changed m.edit 0 tasks) else some tasks

-- a vehicle in front of others; "one that fails gives no plan"
unfoldable pub joined : Option Round → Option (List Round) → Option (List Round)
joined none rounds = none
joined (some tasks) none = none
joined (some tasks) (some rounds) = some (tasks ∷ rounds)

-- the vehicles of a trial's plan, counted on from a number
unfoldable pub tried_from : List ℕ → Trial → ℕ → List Round → Option (List Round)
tried_from day m from [] = some []
tried_from day m from (tasks ∷ rounds) = joined (retried day m (suc from) tasks) (tried_from day m (suc from) rounds)

abbrev pub tried : List ℕ → List Round → Trial → Option (List Round)
tried day rounds m = tried_from day m 0 rounds

-- "shorter means of lower distance"
unfoldable pub distance_of : List ℕ → List Round → ℕ
distance_of day rounds = total (distance_from day 0) rounds

-- the check calls the plan lawful
unfoldable pub is_lawful : List ℕ → List ℕ → List Round → Bool
is_lawful day lefts rounds = is_given (check_words day (plan_words rounds lefts))

-- "kept if the plan is then lawful and its distance lower"
unfoldable pub kept_if : List ℕ → List ℕ → List Round → Option (List Round) → Option (List Round)
kept_if day lefts rounds none = none
kept_if day lefts rounds (some q) = if ltb (distance_of day q) (distance_of day rounds) && is_lawful day lefts q then some q else none

-- the lawful, shorter plan that a trial gives, or none
unfoldable pub attempt : List ℕ → List ℕ → List Round → Trial → Option (List Round)
attempt day lefts rounds m = kept_if day lefts rounds (tried day rounds m)
