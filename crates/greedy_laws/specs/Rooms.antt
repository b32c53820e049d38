-- How many tasks a vehicle has for its stops. No definition of the plan rests on it: it serves contracts and proofs. Assumes nothing.
use Rattle.std.specs.Prelude.{ℕ, ◌+◌, ◌*◌, ◌≤◌, ◌≡◌, [], ◌∷◌, ltb, length, if◌then◌else◌}
use Rattle.rules.specs.Plan.{serve, empty, lunch, Round, stops_on}
use Rattle.rules.specs.Lawful.{rests_in}
use Rattle.rules.specs.Build.{Truck}

-- how many tips a vehicle visits
unfoldable pub empties_in : Round → ℕ
empties_in [] = 0
empties_in (serve k ∷ tasks) = empties_in tasks
empties_in (empty k ∷ tasks) = 1 + empties_in tasks
empties_in (lunch ∷ tasks) = empties_in tasks

-- a vehicle on its way: a stop pays for each tip, and for the one that a load asks for; a rest was taken once it has rested
pub record Paid (v : Truck) : Type 0 where
  pub tips : empties_in v.tasks + (if ltb 0 v.cargo.load then 1 else 0) ≤ v.cargo.visits
  pub rests : rests_in v.tasks ≡ (if v.trip.rested then 1 else 0)

-- what is paid for: no more tips than stops, at most one rest, and so few tasks
pub record Room (tasks : Round) : Type 0 where
  pub tips : empties_in tasks ≤ length (stops_on tasks)
  pub rests : rests_in tasks ≤ 1
  pub size : length tasks ≤ 2 * length (stops_on tasks) + 1
