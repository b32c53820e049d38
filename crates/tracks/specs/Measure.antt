-- A vehicle that a trial touches, measured by the tables of the present plan. It serves the contracts of this crate's own functions.
-- Assumes nothing.
use Rattle.std.specs.Prelude.{ℕ, ◌≡◌, Bool, ◌&&◌, List, Option, Some, None, leb, ltb, length}
use Rattle.std.proofs.Math.Option.{none}
use Rattle.rules.specs.Plan.{Round, stops_on}
use Rattle.rules.specs.Edits.{Edit, changed}
use Rattle.rules.specs.Attempts.{walked_again}
use Rattle.spans.specs.Span.{Outside}
use Rattle.onward.specs.Behind.{BehindOf}
use Rattle.onward.specs.declared.Onward.{Onward}
use Rattle.walks.specs.Cabs.{Start}
use Rattle.walks.specs.Rewalks.{Walkable, Midway, Again}
use Rattle.walks.specs.declared.cabs.Cab.{Cab}
use Rattle.tracks.specs.Before.{BeforeOf}
use Rattle.tracks.specs.declared.before.Row.{Row}

-- nothing changes any more, and the load fits what is left
abbrev pub is_cut : (i last load : ℕ) → Onward → Bool
is_cut i last load o = ltb last i && (leb o.least load && leb load o.most)

-- these are the tasks of a vehicle, the edit changes none outside the span, and the rows are those of what is left
pub record Cuttable (day : List ℕ) (e : Edit) (words part : List ℕ) (from : ℕ) (behind : List Onward) (first last : ℕ) (tasks : Round) : Type 0 where
  pub walkable : Walkable day e words part tasks
  pub outside : Outside e tasks first last
  pub rows : BehindOf day behind from tasks

-- a vehicle that has come to the first task that changes
pub record SomeCuttable (day : List ℕ) (e : Edit) (words part : List ℕ) (from : ℕ) (behind : List Onward) (first last : ℕ) (c : Cab) : Type 0 where
  pub tasks : Round
  pub start : Start
  pub p : List ℕ
  pub cuttable : Cuttable day e words p from behind first last tasks
  pub midway : Midway day e start p part tasks first c

-- how far a vehicle with these tasks drives, walked again, or none where the trial has failed
abbrev pub DrivesAgain : List ℕ → Round → Option ℕ → Type 0
DrivesAgain day tasks None = walked_again day tasks ≡ none
DrivesAgain day tasks (Some distance) = Again day tasks distance

-- it is walked on until what is left is known, whatever the tasks are
abbrev pub CutsAll : (day : List ℕ) (e : Edit) (words part : List ℕ) (from : ℕ) (behind : List Onward) (first last : ℕ) (c : Cab) (r : Option ℕ) → Type 0
CutsAll day e words part from behind first last c r =
    (tasks : Round) (start : Start) (p : List ℕ) → Cuttable day e words p from behind first last tasks → Midway day e start p part tasks first c
    → DrivesAgain day (changed e 0 tasks) r

-- these are the tasks of a vehicle of the present plan, in its tables
pub record Measurable (day : List ℕ) (e : Edit) (words part : List ℕ) (from : ℕ) (before : List (Option Row)) (behind : List Onward) (first last : ℕ) (tasks : Round) : Type 0 where
  pub cuttable : Cuttable day e words part from behind first last tasks
  pub same : length (stops_on (changed e 0 tasks)) ≡ length (stops_on tasks)
  pub walked : BeforeOf day before from tasks

pub record SomeMeasurable (day : List ℕ) (e : Edit) (words part : List ℕ) (from : ℕ) (before : List (Option Row)) (behind : List Onward) (first last : ℕ) : Type 0 where
  pub tasks : Round
  pub measurable : Measurable day e words part from before behind first last tasks
