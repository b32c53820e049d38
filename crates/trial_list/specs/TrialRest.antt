-- The trial list of a plan from a place on. Assumes nothing.
use Rattle.std.specs.Prelude.{ℕ, zero, suc, ◌-◌, ◌||◌, List, [], ◌∷◌, ◌++◌, eqb, Option, Some, None, get_or, drop, if◌then◌else◌}
use Rattle.rules.specs.Fields.{stops, tips}
use Rattle.rules.specs.Plan.{Task, serve, empty, lunch, Round}
use Rattle.rules.specs.Neighbours.{neighbours}
use Rattle.rules.specs.Edits.{before, after, swap, remove, Trial, on_one, on_two}
use Rattle.rules.specs.TrialList.{each, rising, pair_trials, other_tip, round_trials, tip_trials}
use Rattle.edits.specs.EditWords.{trial_of}
use Rattle.trial_list.specs.declared.listing.Cursor.{Cursor}
use Rattle.trial_list.specs.declared.pairs.Half.{Half}
use Rattle.trial_list.specs.declared.pairs.Half.TheVariants as Halves
use Rattle.trial_list.specs.declared.pairs.PairPlace.{PairPlace}
use Rattle.trial_list.specs.declared.tips.TipPlace.{TipPlace}
use Rattle.trial_list.specs.declared.listing.Trial as Code

-- the trial that the code lists
abbrev pub listed_trial : Code.Trial → Trial
listed_trial m = trial_of m.edit m.one m.other

-- the trials of a pair of stops, by the vehicles that they are on, 0 for none
unfoldable pub pair_on : ℕ → ℕ → ℕ → ℕ → List Trial
pair_on i j one other =
    if eqb one 0 || eqb other 0 then []
    else if eqb one other then on_one (before i j) one ∷ on_one (after i j) one ∷ []
    else on_two (swap i j) one other ∷ []

-- all of a list, or what stands behind its first
unfoldable pub from_half : {A : Type 0} → Half → List A → List A
from_half Halves.First xs = xs
from_half Halves.Second xs = drop 1 xs

-- a stop and the neighbours that are left
unfoldable pub neighbours_from : List Round → ℕ → Half → List ℕ → List Trial
neighbours_from rounds i half [] = []
neighbours_from rounds i half (j ∷ js) = from_half half (pair_trials rounds i j) ++ each (pair_trials rounds i) js

-- so many stops that are left, of the first the neighbours from a rank on
unfoldable pub stops_from : List ℕ → ℕ → List Round → ℕ → ℕ → Half → ℕ → List Trial
stops_from day K rounds i rank half zero = []
stops_from day K rounds i rank half (suc more) =
    neighbours_from rounds i half (drop rank (neighbours day K i))
    ++ rising (λ i. each (pair_trials rounds i) (neighbours day K i)) (suc i) more

-- the pairs that are left
unfoldable pub pair_rest : List ℕ → ℕ → List Round → PairPlace → List Trial
pair_rest day K rounds p = stops_from day K rounds p.stop p.rank p.half (suc (stops day) - p.stop)

-- of tip y, the task number t of a vehicle: its removal and every other tip, or the other tips from x on
unfoldable pub tip_from : ℕ → ℕ → ℕ → ℕ → Option ℕ → List Trial
tip_from most number t y None = on_one (remove t) number ∷ rising (other_tip number t y) 1 most
tip_from most number t y (Some x) = rising (other_tip number t y) x (suc most - x)

unfoldable pub task_from : ℕ → ℕ → ℕ → Option ℕ → Task → List Trial
task_from most number t x (empty y) = tip_from most number t y x
task_from most number t x (serve k) = []
task_from most number t x lunch = []

-- a vehicle's tasks from number t on
unfoldable pub tasks_from : List ℕ → ℕ → ℕ → Option ℕ → Round → List Trial
tasks_from day number t x [] = []
tasks_from day number t x (task ∷ tasks) = task_from (tips day) number t x task ++ round_trials day number (suc t) tasks

-- the tips that are left
unfoldable pub tip_rest : List ℕ → List Round → TipPlace → List Trial
tip_rest day rounds q =
    tasks_from day (suc q.vehicle) q.task q.tip (drop q.task (get_or rounds q.vehicle [])) ++ tip_trials day (suc q.vehicle) (drop (suc q.vehicle) rounds)

-- what is left of a plan's trial list
unfoldable pub rest_of : List ℕ → ℕ → List Round → Cursor → List Trial
rest_of day K rounds c = pair_rest day K rounds c.pairs ++ tip_rest day rounds c.tips

-- where the list begins
abbrev pub list_start : Cursor
list_start = record { pairs = record { stop = 1; rank = 0; half = Halves.First }; tips = record { vehicle = 0; task = 0; tip = None } }
