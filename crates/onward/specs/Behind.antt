-- What is left of a vehicle from each of its words on: with which loads it may come so that it is all driven as it stands, the place that
-- comes next, and the distance behind it. A table has a row for each word of the plan. Assumes nothing.
use Rattle.std.specs.Prelude.{ℕ, ◌+◌, ◌-◌, ◌*◌, ◌≤◌, ◌<◌, ◌≡◌, List, [], ◌∷◌, ◌⊎◌, eqb, leb, length, get_or, drop, if◌then◌else◌}
use Rattle.rules.specs.Fields.{places, stop_place, load_limit, quantity, leg_distance}
use Rattle.rules.specs.Plan.{Task, serve, empty, lunch, Round, task_word, Known}
use Rattle.laws.specs.Plan.{RoundAt}
use Rattle.onward.specs.declared.Onward.{Onward}

-- back to the depot, and empty
abbrev pub homeward : Onward
homeward = record { least = 0; most = 0; next = 0; distance = 0 }

-- the distance that is left from a place on
abbrev pub distance_onward : List ℕ → ℕ → Onward → ℕ
distance_onward day place o = leg_distance day place o.next + o.distance

-- a stop in front: its kg come on top of the load. From 1 to 0 there is no load at all
unfoldable pub stop_first : List ℕ → ℕ → Onward → Onward
stop_first day k o =
    record {
      least = if leb (quantity day (stop_place day k)) o.most then o.least - quantity day (stop_place day k) else 1;
      most = if leb (quantity day (stop_place day k)) o.most then o.most - quantity day (stop_place day k) else 0;
      next = stop_place day k;
      distance = distance_onward day (stop_place day k) o;
    }

-- a tip in front: it is dropped without a load, and behind it there is none
unfoldable pub tip_first : List ℕ → ℕ → Onward → Onward
tip_first day x o =
    record { least = 1; most = if eqb o.least 0 then load_limit day else 0; next = x; distance = distance_onward day x o }

-- a task in front; a rest changes neither place nor load
abbrev pub task_first : List ℕ → Task → Onward → Onward
task_first day (serve k) o = stop_first day k o
task_first day (empty x) o = tip_first day x o
task_first day lunch o = o

-- what is left of a vehicle that has these tasks to do
unfoldable pub onward_of : List ℕ → Round → Onward
onward_of day [] = homeward
onward_of day (task ∷ tasks) = task_first day task (onward_of day tasks)

-- within the day, and with a distance of at most so many legs
pub record OnwardWithin (day : List ℕ) (legs : ℕ) (o : Onward) : Type 0 where
  pub least : o.least ≤ 1
  pub most : o.most ≤ load_limit day
  pub next : o.next < places day
  pub distance : o.distance ≤ 65535 * legs

-- the rows of a vehicle whose tasks stand from a place on, up to that of its E word
pub record BehindOf (day : List ℕ) (behind : List Onward) (from : ℕ) (tasks : Round) : Type 0 where
  pub row : (i : ℕ) → i ≤ length tasks → get_or behind (from + i) homeward ≡ onward_of day (drop i tasks)

-- a word is that of a known task
pub record SomeTaskWord (day : List ℕ) (w : ℕ) : Type 0 where
  pub task : Task
  pub known : Known day task
  pub is : w ≡ task_word task

-- a vehicle's tasks stand from a place to another, where its E word is
pub record RoundTo (day plan : List ℕ) (from end : ℕ) (tasks : Round) (rest : List ℕ) : Type 0 where
  pub round_at : RoundAt day plan from tasks rest
  pub ends : end ≡ from + length tasks

-- there is such a vehicle
pub record SomeRoundTo (day plan : List ℕ) (from end : ℕ) : Type 0 where
  pub tasks : Round
  pub rest : List ℕ
  pub round_to : RoundTo day plan from end tasks rest

-- its rows are right whatever its tasks are, and all other rows stay
pub record FillsBehind (day plan : List ℕ) (from end : ℕ) (before after : List Onward) : Type 0 where
  pub rows : (tasks : Round) (rest : List ℕ) → RoundTo day plan from end tasks rest → BehindOf day after from tasks
  pub others : (q : ℕ) → (q < from) ⊎ (end < q) → get_or after q homeward ≡ get_or before q homeward
