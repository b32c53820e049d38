-- The table of the vehicles of the present plan before each of their words, walked again without a change. It serves the contracts of this
-- crate's own functions. Assumes nothing.
use Rattle.std.specs.Prelude.{ℕ, ◌+◌, ◌*◌, ◌≤◌, ◌<◌, ◌≡◌, List, [], ◌∷◌, map, Option, Some, None, length, get_or, take, drop}
use Rattle.std.proofs.Math.Option as maybe
use Rattle.std.proofs.Math.Option.{none, some}
use Rattle.rules.specs.Lists.{Every}
use Rattle.rules.specs.Plan.{Task, Round, task_word, stops_on, Known}
use Rattle.rules.specs.Build.{Truck, fresh}
use Rattle.rules.specs.Attempts.{walk_on}
use Rattle.edits.specs.Kept.{kept}
use Rattle.walks.specs.Cabs.{Riding, Start, Stands}
use Rattle.walks.specs.declared.cabs.Cab.{Cab}
use Rattle.tracks.specs.declared.before.Row.{Row}

-- the row of a vehicle
abbrev pub row_of : Cab → Row
row_of c = record { minute = c.trip.minute; place = c.trip.place; distance = c.trip.distance; load = c.load; rested = c.trip.rested }

abbrev pub row_if : Option Cab → Option Row
row_if None = None
row_if (Some c) = Some (row_of c)

-- the vehicle of a row; it has written its A word
abbrev pub cab_of : Row → Cab
cab_of r =
    record {
      trip = record { minute = r.minute; place = r.place; rested = r.rested; distance = r.distance };
      load = r.load;
      at = 1;
    }

abbrev pub cab_if : Option Row → Option Cab
cab_if None = None
cab_if (Some r) = Some (cab_of r)

-- the vehicle before a word of the plan, or none where its walk has failed
abbrev pub cab_at : List (Option Row) → ℕ → Option Cab
cab_at before at = cab_if (get_or before at None)

-- the row holds the vehicle, or that there is none
pub record RowHolds (before : List (Option Row)) (at : ℕ) (c : Option Cab) : Type 0 where
  pub is : get_or before at None ≡ row_if c

-- a vehicle on its way, or none where the walk has failed
pub data RidesIf (day : List ℕ) (most more : ℕ) : maybe.Option Truck → Option Cab → Type 0 where
  halted : RidesIf day most more none None
  rides : (v : Truck) (c : Cab) → Riding day most more v c → RidesIf day most more (some v) (Some c)

-- the vehicle before its task number i
abbrev pub truck_before : List ℕ → Round → ℕ → maybe.Option Truck
truck_before day tasks i = walk_on day (kept (take i tasks)) (some (fresh day []))

-- the rows of a vehicle whose first task stands at a place of the plan, up to the one before task number n
abbrev pub BeforeTo : (day : List ℕ) (before : List (Option Row)) (from : ℕ) (tasks : Round) (n : ℕ) → Type 0
BeforeTo day before from tasks n =
    (i : ℕ) → i ≤ n → RidesIf day (length (stops_on tasks)) (length (stops_on (drop i tasks))) (truck_before day tasks i) (cab_at before (from + i))

-- all its rows; the last one is that of its E word
abbrev pub BeforeOf : (day : List ℕ) (before : List (Option Row)) (from : ℕ) (tasks : Round) → Type 0
BeforeOf day before from tasks = BeforeTo day before from tasks (length tasks)

-- the rows below a place are as they were
abbrev pub RowsKept : (from : ℕ) (before after : List (Option Row)) → Type 0
RowsKept from before after = (at : ℕ) → at < from → cab_at after at ≡ cab_at before at

-- these are the tasks of a vehicle, and there is room for their words
pub record VehicleTasks (day words part : List ℕ) (tasks : Round) : Type 0 where
  pub are : words ≡ map task_word tasks
  pub known : Every (Known day) tasks
  pub few : length (stops_on tasks) ≤ 240
  pub room : 3 + 2 * length (stops_on tasks) ≤ length part

pub record SomeVehicleTasks (day words part : List ℕ) : Type 0 where
  pub tasks : Round
  pub walks : VehicleTasks day words part tasks

-- a vehicle or a failed trial, with a task before it
pub record TaskToWalk (day part : List ℕ) (c : Option Cab) (w : ℕ) : Type 0 where
  pub start : Start
  pub most : ℕ
  pub more : ℕ
  pub p : List ℕ
  pub o : maybe.Option Truck
  pub task : Task
  pub is : w ≡ task_word task
  pub known : Known day task
  pub stands : Stands day start most (length (stops_on (task ∷ [])) + more) p part o c

-- it has walked the task, which is passed over where it is a rest
abbrev pub WalksOrPasses : List ℕ → List ℕ → Option Cab → ℕ → List ℕ → Option Cab → Type 0
WalksOrPasses day part c w now r =
    (start : Start) (most more : ℕ) (p : List ℕ) (o : maybe.Option Truck) (task : Task) → w ≡ task_word task → Known day task
    → Stands day start most (length (stops_on (task ∷ [])) + more) p part o c → Stands day start most more p now (walk_on day (kept (task ∷ [])) o) r

-- the rows of a vehicle are filled
pub record FilledBefore (day words : List ℕ) (from : ℕ) (before after : List (Option Row)) (part now : List ℕ) : Type 0 where
  pub size : length after ≡ length before
  pub part_size : length now ≡ length part
  pub kept : RowsKept from before after
  pub rows : (tasks : Round) → VehicleTasks day words part tasks → BeforeOf day after from tasks
