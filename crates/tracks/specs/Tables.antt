-- The tables of all vehicles of the present plan. They serve the contracts of this crate's own functions. Assumes nothing.
use Rattle.std.specs.Prelude.{ℕ, ◌+◌, ◌*◌, ◌≤◌, ◌<◌, ◌≡◌, List, [], ◌∷◌, Option, length, get_or, take, set}
use Rattle.rules.specs.Lists.{Every}
use Rattle.rules.specs.PlanWords.{Word, vehicle, stop, tip, rest, back, left, stray, word_of}
use Rattle.rules.specs.Plan.{Round, rounds_words, stops_on, Known}
use Rattle.onward.specs.Behind.{homeward, BehindOf}
use Rattle.onward.specs.declared.Onward.{Onward}
use Rattle.onward.specs.declared.TheConstants.{ROWS}
use Rattle.trial_list.specs.Survey.{Laid, VehicleIn}
use Rattle.tracks.specs.Before.{BeforeOf, RowsKept}
use Rattle.tracks.specs.declared.before.Row.{Row}
use Rattle.tracks.specs.declared.plan_tables.Tracks.{Tracks}

-- the place of the plan where the first task of vehicle v, counted from 0, stands
abbrev pub first_task : List Round → ℕ → ℕ
first_task rounds v = length (rounds_words 0 (take v rounds)) + 1

-- the tables of the present plan's vehicles; what `spots` says is tested where it is used
pub record Tracked (day : List ℕ) (rounds : List Round) (before : List (Option Row)) (behind : List Onward) (spots : List ℕ) : Type 0 where
  pub walked : (v : ℕ) → v < length rounds → BeforeOf day before (first_task rounds v) (get_or rounds v [])
  pub onward : (v : ℕ) → v < length rounds → BehindOf day behind (first_task rounds v) (get_or rounds v [])
  pub before_size : length before ≡ ROWS
  pub behind_size : length behind ≡ ROWS
  pub spots_size : length spots ≡ 256

-- the code's tables are those
pub record TrackedIn (day : List ℕ) (rounds : List Round) (tracks : Tracks) : Type 0 where
  pub tracked : Tracked day rounds tracks.before tracks.behind tracks.spots

-- a vehicle has few stops, and there is room for its words
pub record HasRoom (room : ℕ) (tasks : Round) : Type 0 where
  pub few : length (stops_on tasks) ≤ 240
  pub words : 3 + 2 * length (stops_on tasks) ≤ room

-- these are the plan's vehicles, it is known where they start, and each has room
pub record Trackable (day plan starts : List ℕ) (room : ℕ) (rounds : List Round) (lefts : List ℕ) : Type 0 where
  pub laid : Laid plan starts rounds lefts
  pub known : Every (Every (Known day)) rounds
  pub few : length rounds ≤ 240
  pub short : length plan ≤ 1200
  pub fits : (v : ℕ) → v < length rounds → HasRoom room (get_or rounds v [])

-- there are such vehicles, so many of them
pub record SomeTrackable (day plan starts : List ℕ) (room count : ℕ) : Type 0 where
  pub rounds : List Round
  pub lefts : List ℕ
  pub trackable : Trackable day plan starts room rounds lefts
  pub counted : count ≡ length rounds

-- so the tables are those of whatever vehicles the plan has
abbrev pub TracksIn : (day plan starts : List ℕ) (room count : ℕ) (tracks : Tracks) → Type 0
TracksIn day plan starts room count tracks =
    (rounds : List Round) (lefts : List ℕ) → Trackable day plan starts room rounds lefts → count ≡ length rounds → TrackedIn day rounds tracks

-- there are such vehicles, and vehicle v is one of them
pub record SomeVehicle (day plan starts : List ℕ) (room v : ℕ) : Type 0 where
  pub rounds : List Round
  pub lefts : List ℕ
  pub trackable : Trackable day plan starts room rounds lefts
  pub inside : v < length rounds
  pub vehicle : VehicleIn plan starts v
  pub short : length plan ≤ 1200

-- the rows of vehicle v are filled, and those of the vehicles in front of it are as they were
pub record TracksOne (day : List ℕ) (rounds : List Round) (v : ℕ) (before walks : List (Option Row)) (behind onwards : List Onward) : Type 0 where
  pub walked : BeforeOf day walks (first_task rounds v) (get_or rounds v [])
  pub onward : BehindOf day onwards (first_task rounds v) (get_or rounds v [])
  pub walked_kept : RowsKept (first_task rounds v) before walks
  pub onward_kept : (at : ℕ) → at < first_task rounds v → get_or onwards at homeward ≡ get_or behind at homeward

-- so it is whatever vehicles the plan has
abbrev pub TracksVehicle : (day plan starts : List ℕ) (room v : ℕ) (tracks after : Tracks) → Type 0
TracksVehicle day plan starts room v tracks after =
    (rounds : List Round) (lefts : List ℕ) → Trackable day plan starts room rounds lefts → v < length rounds
    → TracksOne day rounds v tracks.before after.before tracks.behind after.behind

-- the places of the stops once a word that stands at a place is looked at
abbrev pub spot_said : Word → (at : ℕ) → List ℕ → List ℕ
spot_said (vehicle k) at spots = spots
spot_said (stop k) at spots = set spots k at
spot_said (tip k) at spots = spots
spot_said rest at spots = spots
spot_said back at spots = spots
spot_said (left k) at spots = spots
spot_said stray at spots = spots

-- and once the word of a number is
abbrev pub spot_after : (w at : ℕ) → List ℕ → List ℕ
spot_after w at spots = spot_said (word_of w) at spots

-- and once these words are, of which the first stands at a place: of a stop that stands there twice the last place is told
unfoldable pub spots_after : (words : List ℕ) → ℕ → List ℕ → List ℕ
spots_after [] at spots = spots
spots_after (w ∷ words) at spots = spots_after words (at + 1) (spot_after w at spots)
