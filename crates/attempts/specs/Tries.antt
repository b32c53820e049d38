-- A trial while it is made, as the code has it. It serves the contracts of the functions that make trials. Assumes nothing.
use Rattle.std.specs.Prelude.{ℕ, ◌+◌, ◌≤◌, ◌<◌, ◌≡◌, true, List, [], ◌∷◌, Option, Some, None, length, get_or, take}
use Rattle.std.proofs.Math.Option.{none, some}
use Rattle.rules.specs.Answers.{given}
use Rattle.rules.specs.Plan.{Round, plan_words}
use Rattle.rules.specs.Lawful.{distance_from}
use Rattle.rules.specs.Check.{check_words}
use Rattle.rules.specs.Build.{greedy_lefts}
use Rattle.rules.specs.Edits.{Trial, touches, changed}
use Rattle.rules.specs.Attempts.{distance_of, attempt}
use Rattle.trial_list.specs.Survey.{VehicleIn}
use Rattle.candidates.specs.Candidates.{Trying}
use Rattle.tracks.specs.Measure.{DrivesAgain}
use Rattle.tracks.specs.Tables.{TrackedIn}
use Rattle.tracks.specs.declared.plan_tables.Held.{Held}
use Rattle.tracks.specs.declared.plan_tables.Tables.{Tables}

-- the numbers of the vehicles that a trial touches
pub record Numbers (rounds : List Round) (m : Trial) : Type 0 where
  pub first_one : 1 ≤ m.one
  pub last_one : m.one ≤ length rounds
  pub first_other : 1 ≤ m.other
  pub last_other : m.other ≤ length rounds

-- a vehicle of the plan held that the trial touches
pub record SomeTouched (day plan : List ℕ) (tables : Tables) (m : Trial) (v : ℕ) : Type 0 where
  pub rounds : List Round
  pub trying : Trying day plan tables.starts m rounds
  pub tracked : TrackedIn day rounds tables.tracks
  pub inside : v < length rounds
  pub touched : touches m (v + 1) ≡ true
  pub vehicle : VehicleIn plan tables.starts v
  pub short : length plan ≤ 1200

-- so it is measured, whatever vehicles have these words
abbrev pub Retries : List ℕ → List ℕ → Tables → Trial → ℕ → Option ℕ → Type 0
Retries day plan tables m v r =
    (rounds : List Round) → Trying day plan tables.starts m rounds → TrackedIn day rounds tables.tracks → v < length rounds → touches m (v + 1) ≡ true
    → DrivesAgain day (changed m.edit 0 (get_or rounds v [])) r

-- the plan held, and how far each of its vehicles drives
pub record Measured (day plan : List ℕ) (tables : Tables) (m : Trial) (rounds : List Round) : Type 0 where
  pub trying : Trying day plan tables.starts m rounds
  pub tracked : TrackedIn day rounds tables.tracks
  pub driven : (v : ℕ) → v < length rounds → get_or tables.distances v 0 ≡ distance_from day 0 (get_or rounds v [])

pub record SomeMeasured (day plan : List ℕ) (tables : Tables) (m : Trial) : Type 0 where
  pub rounds : List Round
  pub measured : Measured day plan tables m rounds
  pub numbers : Numbers rounds m
  pub few : length rounds ≤ 240

-- how many vehicles it has, and how far they drive
pub record Made (day plan : List ℕ) (tables : Tables) (m : Trial) (count distance : ℕ) (rounds : List Round) : Type 0 where
  pub measured : Measured day plan tables m rounds
  pub counted : count ≡ length rounds
  pub drives : distance ≡ distance_of day rounds

pub record SomeMade (day plan : List ℕ) (tables : Tables) (m : Trial) (count distance : ℕ) : Type 0 where
  pub rounds : List Round
  pub made : Made day plan tables m count distance rounds

-- no lawful, shorter plan comes of the trial, whatever vehicles have these words
abbrev pub NoneKept : List ℕ → List ℕ → Tables → Trial → Type 0
NoneKept day plan tables m =
    (rounds : List Round) → Measured day plan tables m rounds → attempt day (greedy_lefts day) rounds m ≡ none

-- the plan that is kept stands at the front of the working buffer
pub record Kept (day : List ℕ) (m : Trial) (rounds : List Round) (part : List ℕ) (r : Held) : Type 0 where
  pub q : List Round
  pub is : attempt day (greedy_lefts day) rounds m ≡ some q
  pub fits : r.words ≤ length part
  pub text : take r.words part ≡ plan_words q (greedy_lefts day)
  pub distance : r.distance ≡ distance_of day q

-- what a trial of a plan comes to: no plan, or one that is kept
abbrev pub TriedAs : (day : List ℕ) (m : Trial) (rounds : List Round) (part : List ℕ) → Option Held → Type 0
TriedAs day m rounds part None = attempt day (greedy_lefts day) rounds m ≡ none
TriedAs day m rounds part (Some held) = Kept day m rounds part held

-- what the check says of a plan, set against a distance
pub record LawfulBy (day plan : List ℕ) (distance : ℕ) : Type 0 where
  pub vehicles : ℕ
  pub served : ℕ
  pub answer : check_words day plan ≡ given (distance ∷ vehicles ∷ served ∷ [])

-- a plan that is kept is lawful and drives less than that distance
pub record Better (day plan : List ℕ) (distance : ℕ) (held : Held) : Type 0 where
  pub lawful : LawfulBy day plan held.distance
  pub shorter : held.distance < distance
  pub words : held.words ≡ length plan

-- and where none is kept, the plan is not
abbrev pub Judged : (day plan : List ℕ) (distance : ℕ) → Option Held → Type 0
Judged day plan distance None = (d : ℕ) → LawfulBy day plan d → distance ≤ d
Judged day plan distance (Some held) = Better day plan distance held
