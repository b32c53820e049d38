-- A plan's trial list: document 01, "Trials". A plan is its vehicles' tasks; the stops left out never change. Assumes nothing.
use Rattle.std.specs.Prelude.{ℕ, zero, suc, ◌||◌, List, [], ◌∷◌, ◌++◌, eqb, if◌then◌else◌}
use Rattle.rules.specs.Lists.{mem}
use Rattle.rules.specs.Fields.{stops, tips}
use Rattle.rules.specs.Plan.{Task, serve, empty, lunch, Round, stops_on}
use Rattle.rules.specs.Neighbours.{neighbours}
use Rattle.rules.specs.Edits.{before, after, swap, remove, replace, Trial, on_one, on_two}

-- the lists of the elements, one behind the other
unfoldable pub each : {A M : Type 0} → (A → List M) → List A → List M
each f [] = []
each f (x ∷ xs) = f x ++ each f xs

-- the lists of r numbers from k on, "rising"
unfoldable pub rising : {M : Type 0} → (ℕ → List M) → ℕ → ℕ → List M
rising f k zero = []
rising f k (suc r) = f k ++ rising f (suc k) r

-- the number of the vehicle that a stop is on, counted on from a number; 0 where none serves it
unfoldable pub vehicle_from : ℕ → ℕ → List Round → ℕ
vehicle_from from k [] = 0
vehicle_from from k (tasks ∷ rounds) = if mem k (stops_on tasks) then suc from else vehicle_from (suc from) k rounds

abbrev pub vehicle_of : List Round → ℕ → ℕ
vehicle_of rounds k = vehicle_from 0 k rounds

-- "both routed: on the same vehicle j moved just before i, then just after; otherwise i and j interchanged"
unfoldable pub pair_trials : List Round → ℕ → ℕ → List Trial
pair_trials rounds i j =
    if eqb (vehicle_of rounds i) 0 || eqb (vehicle_of rounds j) 0 then []
    else if eqb (vehicle_of rounds i) (vehicle_of rounds j) then on_one (before i j) (vehicle_of rounds i) ∷ on_one (after i j) (vehicle_of rounds i) ∷ []
    else on_two (swap i j) (vehicle_of rounds i) (vehicle_of rounds j) ∷ []

-- "for i rising, j in neighbour order"
unfoldable pub stop_trials : List ℕ → ℕ → List Round → List Trial
stop_trials day K rounds = rising (λ i. each (pair_trials rounds i) (neighbours day K i)) 1 (stops day)

-- "replaced by every other tip"
unfoldable pub other_tip : ℕ → ℕ → ℕ → ℕ → List Trial
other_tip number t y x = if eqb x y then [] else on_one (replace t x) number ∷ []

-- the trials of the task number t of a vehicle: "removed; replaced by every other tip, rising"
unfoldable pub task_trials : List ℕ → ℕ → ℕ → Task → List Trial
task_trials day number t (empty y) = on_one (remove t) number ∷ rising (other_tip number t y) 1 (tips day)
task_trials day number t (serve k) = []
task_trials day number t lunch = []

-- those of a vehicle's tasks from number t on
unfoldable pub round_trials : List ℕ → ℕ → ℕ → Round → List Trial
round_trials day number t [] = []
round_trials day number t (task ∷ tasks) = task_trials day number t task ++ round_trials day number (suc t) tasks

-- "then each C in plan order"
unfoldable pub tip_trials : List ℕ → ℕ → List Round → List Trial
tip_trials day from [] = []
tip_trials day from (tasks ∷ rounds) = round_trials day (suc from) 0 tasks ++ tip_trials day (suc from) rounds

-- "a plan's trial list"
unfoldable pub trial_list : List ℕ → ℕ → List Round → List Trial
trial_list day K rounds = stop_trials day K rounds ++ tip_trials day 0 rounds
