-- When a plan is lawful: document 01, "Plan and timetable". It has the form, meets loads and counts, and a timetable exists. No walk is
-- mentioned here. Assumes nothing.
use Rattle.std.specs.Prelude.{ℕ, ◌+◌, ◌≤◌, ◌≡◌, List, [], ◌∷◌, length}
use Rattle.rules.specs.Lists.{Every, total}
use Rattle.rules.specs.Fields.{stop_place, load_limit, day_limit, stop_limit, quantity, leg_distance}
use Rattle.rules.specs.Plan.{Task, serve, empty, lunch, Round, stops_on, stops_on_all, Formed}
use Rattle.rules.specs.Timetable.{IsTimetable}

-- "a vehicle starts empty; a B adds q, a C empties": the load after a task
unfoldable pub load_then : List ℕ → ℕ → Task → ℕ
load_then day load (serve k) = load + quantity day (stop_place day k)
load_then day load (empty k) = 0
load_then day load lunch = load

-- "load at most Q" after each task, and "load 0 at E"
unfoldable pub LoadsWithin : List ℕ → ℕ → Round → Type 0
LoadsWithin day load [] = load ≡ 0
LoadsWithin day load (task ∷ tasks) = (load_then day load task ≤ load_limit day) × LoadsWithin day (load_then day load task) tasks

-- the kg of a vehicle's day
unfoldable pub kg_of : List ℕ → Round → ℕ
kg_of day tasks = total (λ k. quantity day (stop_place day k)) (stops_on tasks)

-- how many rests a vehicle takes
unfoldable pub rests_in : Round → ℕ
rests_in [] = 0
rests_in (serve k ∷ tasks) = rests_in tasks
rests_in (empty k ∷ tasks) = rests_in tasks
rests_in (lunch ∷ tasks) = 1 + rests_in tasks

-- "load at most Q, day's total at most Q*, B words at most S*, load 0 at E, at most one D"
pub record Loads (day : List ℕ) (tasks : Round) : Type 0 where
  pub load : LoadsWithin day 0 tasks
  pub kg : kg_of day tasks ≤ day_limit day
  pub visits : length (stops_on tasks) ≤ stop_limit day
  pub rests : rests_in tasks ≤ 1

-- a timetable of one vehicle exists
pub record Timed (day : List ℕ) (tasks : Round) : Type 0 where
  pub minutes : List ℕ
  pub kept : IsTimetable day tasks minutes

-- "distance is the sum over the legs driven"
unfoldable pub distance_from : List ℕ → ℕ → Round → ℕ
distance_from day from [] = leg_distance day from 0
distance_from day from (serve k ∷ tasks) = leg_distance day from (stop_place day k) + distance_from day (stop_place day k) tasks
distance_from day from (empty k ∷ tasks) = leg_distance day from k + distance_from day k tasks
distance_from day from (lunch ∷ tasks) = distance_from day from tasks

-- a plan is lawful
pub record Lawful (day plan : List ℕ) : Type 0 where
  pub rounds : List Round
  pub lefts : List ℕ
  pub formed : Formed day plan rounds lefts
  pub loads : Every (Loads day) rounds
  pub timed : Every (Timed day) rounds

-- "its distance, its vehicles and its stops served (B words)"
unfoldable pub totals : List ℕ → List Round → List ℕ
totals day rounds = total (distance_from day 0) rounds ∷ length rounds ∷ length (stops_on_all rounds) ∷ []
