-- One vehicle's words while they are written, by what they say. It serves the contracts of this crate's own functions. Assumes nothing.
use Rattle.std.specs.Prelude.{ℕ, ◌+◌, ◌*◌, ◌≤◌, ◌<◌, ◌≡◌, Bool, true, Option, Some, None, List, [], ◌∷◌, ◌++◌, length, slice_set, if◌then◌else◌}
use Rattle.rules.specs.Lists.{unmet}
use Rattle.rules.specs.Fields.{stops}
use Rattle.rules.specs.PlanWords.{Word, rest}
use Rattle.rules.specs.Build.{Truck, fresh, resting, next_task, one_vehicle}
use Rattle.laws.specs.Marks.{marked, ones_of}
use Rattle.marks.specs.declared.Marks.{Marks}
use Rattle.plan_words.specs.Said.{tasks_said, round_said, Said}
use Rattle.greedy_laws.specs.Reached.{Reached}
use Rattle.greedy_laws.specs.States.{unrouted}
use Rattle.next_task.specs.NextBy.{next_of, NextWithin, is_task}
use Rattle.vehicle_writer.specs.declared.state.Ready.{Ready}
use Rattle.vehicle_writer.specs.declared.writer.Written.{Written}

-- the marks are those of the stops still to be routed, and as many
pub record LeftOf (day taken : List ℕ) (m : Marks) : Type 0 where
  pub are : marked m.words ≡ unrouted (stops day) taken
  pub count : ones_of m.words ≡ unmet (stops day) taken

-- the code's state is that of a vehicle that has rested if due, and its next task is before it
pub record IsReady (day : List ℕ) (v : Truck) (r : Ready) : Type 0 where
  pub trip_is : r.state.trip ≡ v.trip
  pub cargo_is : r.state.cargo ≡ v.cargo
  pub left_is : LeftOf day v.taken r.state.left
  pub next_is : next_of r.next ≡ next_task day v
  pub next_in : NextWithin day r.next

-- so it is with a fresh vehicle, for whatever stops were routed that leave these marks
abbrev pub SetsOut : List ℕ → Marks → Ready → Type 0
SetsOut day m r = (before : List ℕ) → LeftOf day before m → IsReady day (resting day (fresh day before)) r

-- one word more stands in the part
pub record WordPut (part : List ℕ) (at word : ℕ) (now : List ℕ) (end : ℕ) : Type 0 where
  pub text : now ≡ slice_set part at word
  pub count : end ≡ at + 1

-- a rest is said behind the other words where one is due
pub record RestSaid (isDue : Bool) (part : List ℕ) (at : ℕ) (now : List ℕ) (end : ℕ) : Type 0 where
  pub count : end ≡ (if isDue then at + 1 else at)
  pub size : length now ≡ length part
  pub says : (what : List Word) (p : List ℕ) → Said what p part at → Said (if isDue then what ++ (rest ∷ []) else what) p now end

-- the first words of a vehicle stand at the front of the part, for whatever stops were routed
abbrev pub StartSaid : List ℕ → ℕ → List ℕ → List ℕ → ℕ → Type 0
StartSaid day number part now at = (before : List ℕ) → Said (tasks_said number (resting day (fresh day before)).tasks) part now at

-- a vehicle that set out when some stops were routed is ready for its next task, and its words so far are written; p is what the part was
pub record Going (day : List ℕ) (before : List ℕ) (number : ℕ) (p part : List ℕ) (at : ℕ) (r : Ready) : Type 0 where
  pub truck : Truck
  pub reached : Reached day before truck
  pub ready : IsReady day (resting day truck) r
  pub text : Said (tasks_said number (resting day truck).tasks) p part at

-- there is such a vehicle, and room for it: five words for each stop still to be routed, of which there is one at least
pub record SomeGoing (day : List ℕ) (part : List ℕ) (at : ℕ) (r : Ready) : Type 0 where
  pub before : List ℕ
  pub number : ℕ
  pub p : List ℕ
  pub going : Going day before number p part at r
  pub some : 0 < unmet (stops day) before
  pub room : 5 * unmet (stops day) before ≤ length p

-- and it has a task before it
pub record TaskAhead (day : List ℕ) (part : List ℕ) (at : ℕ) (r : Ready) : Type 0 where
  pub some : SomeGoing day part at r
  pub task : is_task r.next ≡ true

-- each vehicle that stood so now stands so
abbrev pub GoesOn : List ℕ → List ℕ → ℕ → Ready → List ℕ → ℕ → Ready → Type 0
GoesOn day part at r now end after =
    (before : List ℕ) (number : ℕ) (p : List ℕ) → Going day before number p part at r → Going day before number p now end after

-- the marks are those of some stops still to be routed, with room for them
pub record SomeLeft (day part : List ℕ) (m : Marks) : Type 0 where
  pub before : List ℕ
  pub left_is : LeftOf day before m
  pub room : 5 * unmet (stops day) before ≤ length part

-- the vehicle's words stand at the front of the part, and the marks are those that it leaves
pub record VehicleDone (day before : List ℕ) (number : ℕ) (p part : List ℕ) (m : Marks) (words : ℕ) : Type 0 where
  pub text : Said (round_said number (one_vehicle day before).tasks) p part words
  pub left_is : LeftOf day (one_vehicle day before).taken m

-- each vehicle that stood so is now written
abbrev pub EndsAll : List ℕ → List ℕ → ℕ → Ready → List ℕ → Marks → ℕ → Type 0
EndsAll day part at r now m words =
    (before : List ℕ) (number : ℕ) (p : List ℕ) → Going day before number p part at r → VehicleDone day before number p now m words

-- the vehicle takes a stop, and is written
pub record VehicleOut (day before : List ℕ) (number : ℕ) (p part : List ℕ) (w : Written) : Type 0 where
  pub some : 0 < (one_vehicle day before).cargo.visits
  pub done : VehicleDone day before number p part w.left w.words

-- it takes none, and nothing is written
pub record VehicleIdle (day before p part : List ℕ) : Type 0 where
  pub none : (one_vehicle day before).cargo.visits ≡ 0
  pub kept : part ≡ p

abbrev pub VehicleWritten : List ℕ → List ℕ → ℕ → List ℕ → List ℕ → Option Written → Type 0
VehicleWritten day before number p part (Some w) = VehicleOut day before number p part w
VehicleWritten day before number p part None = VehicleIdle day before p part

-- so it is for whatever stops were routed that leave these marks
abbrev pub WritesOne : List ℕ → Marks → ℕ → List ℕ → List ℕ → Option Written → Type 0
WritesOne day left number part now w = (before : List ℕ) → LeftOf day before left → VehicleWritten day before number part now w
