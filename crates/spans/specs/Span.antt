-- The span of an edit: the tasks of a vehicle from the first that it changes to the last. It serves the contracts of this crate's own
-- functions. Assumes nothing.
use Rattle.std.specs.Prelude.{ℕ, ◌≤◌, ◌<◌, ◌≡◌, Bool, true, false, List, Option, IfSome, length, get_or, take, drop}
use Rattle.rules.specs.Lists.{times}
use Rattle.rules.specs.PlanWords.{stop_word}
use Rattle.rules.specs.Plan.{Round, stops_on}
use Rattle.rules.specs.Edits.{Edit, before, after, swap, remove, replace, changed}
use Rattle.edits.specs.Kept.{kept}

-- outside of these tasks the edit changes nothing but takes rests off
pub record Outside (e : Edit) (tasks : Round) (first last : ℕ) : Type 0 where
  pub within : first ≤ length tasks
  pub ahead : changed e 0 (take first tasks) ≡ kept (take first tasks)
  pub behind : (i : ℕ) → last < i → changed e i (drop i tasks) ≡ kept (drop i tasks)

-- the stops that the edit names stand on the vehicle once at most, and a swap's other stop not at all: `here` tells whether this is the
-- vehicle of a swap's first stop
unfoldable pub Single : Edit → Bool → Round → Type 0
Single (before i j) here tasks = (times i (stops_on tasks) ≤ 1) × (times j (stops_on tasks) ≤ 1)
Single (after i j) here tasks = (times i (stops_on tasks) ≤ 1) × (times j (stops_on tasks) ≤ 1)
Single (swap i j) true tasks = (times i (stops_on tasks) ≤ 1) × (times j (stops_on tasks) ≡ 0)
Single (swap i j) false tasks = (times j (stops_on tasks) ≤ 1) × (times i (stops_on tasks) ≡ 0)
Single (remove at) here tasks = Unit {0}
Single (replace at x) here tasks = Unit {0}

-- the place of a stop's word, where it is found
abbrev pub PlaceOf : (words : List ℕ) (k : ℕ) → Option ℕ → Type 0
PlaceOf words k choice = IfSome choice (λ place. (place < length words) × (get_or words place 0 ≡ stop_word k))

-- a span has a stop's word, or it has all words
pub data Holds (words : List ℕ) (k first last : ℕ) : Type 0 where
  whole : first ≡ 0 → last ≡ length words → Holds words k first last
  stands : (at : ℕ) → at < length words → get_or words at 0 ≡ stop_word k → first ≤ at → at ≤ last → Holds words k first last

-- a span has the word at a place, or it has all words
pub record Covers (words : List ℕ) (at first last : ℕ) : Type 0 where
  pub within : first ≤ length words
  pub ahead : first ≤ at
  pub behind : last < length words → at ≤ last
