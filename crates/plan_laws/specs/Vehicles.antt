-- One vehicle walked by itself, so that what the check says of a plan can be put together from its vehicles. Assumes nothing.
use Rattle.std.specs.Prelude.{ℕ, ◌+◌, ◌≡◌, List, [], ◌∷◌}
use Rattle.rules.specs.PlanWords.{vehicle, back}
use Rattle.rules.specs.Plan.{Round, word_for}
use Rattle.rules.specs.Cargo.{cargo_fault, cargo_after}
use Rattle.rules.specs.Cargo as Carried
use Rattle.rules.specs.Trip.{leaving, trip_fault, trip_after}
use Rattle.rules.specs.Check.{Walk, walk_after}
use Rattle.rules.specs.declared.walk.Cargo.{Cargo}
use Rattle.rules.specs.declared.walk.Trip.{Trip}

-- no task, and not the return, is at fault by the load
unfoldable pub CargoClear : List ℕ → Cargo → Round → Type 0
CargoClear day c [] = cargo_fault day c back ≡ 0
CargoClear day c (task ∷ tasks) = (cargo_fault day c (word_for task) ≡ 0) × CargoClear day (cargo_after day c (word_for task)) tasks

-- nor by the minute
unfoldable pub TripClear : List ℕ → Trip → Round → Type 0
TripClear day t [] = trip_fault day t back ≡ 0
TripClear day t (task ∷ tasks) = (trip_fault day t (word_for task) ≡ 0) × TripClear day (trip_after day t (word_for task)) tasks

-- the trip once the vehicle is back
unfoldable pub trip_home : List ℕ → Trip → Round → Trip
trip_home day t [] = trip_after day t back
trip_home day t (task ∷ tasks) = trip_home day (trip_after day t (word_for task)) tasks

-- a vehicle that leaves the depot empty does its tasks and comes back without a fault
pub record Clear (day : List ℕ) (tasks : Round) : Type 0 where
  pub cargo : CargoClear day Carried.empty tasks
  pub trip : TripClear day (leaving day) tasks

-- the walk after a vehicle's tasks
unfoldable pub walk_tasks : List ℕ → Walk → Round → Walk
walk_tasks day s [] = s
walk_tasks day s (task ∷ tasks) = walk_tasks day (walk_after day s (word_for task)) tasks

-- the walk after the next vehicle
unfoldable pub walk_round : List ℕ → Walk → Round → Walk
walk_round day s tasks = walk_after day (walk_tasks day (walk_after day s (vehicle (s.tally.vehicles + 1))) tasks) back

-- the walk after the next vehicles
unfoldable pub walk_rounds : List ℕ → Walk → List Round → Walk
walk_rounds day s [] = s
walk_rounds day s (tasks ∷ rounds) = walk_rounds day (walk_round day s tasks) rounds
