-- The plans that trials work on, and what a trial that may be made names. They serve the contracts of the functions that make trials and
-- the proofs of what is promised; no definition rests on them. Assumes nothing.
use Rattle.std.specs.Prelude.{ℕ, suc, ◌≤◌, ◌<◌, ◌≡◌, List, [], ◌∷◌, eqb, length, if◌then◌else◌}
use Rattle.rules.specs.Lists.{Every, times}
use Rattle.rules.specs.Plan.{serve, empty, Round, stops_on, stops_on_all, Known}
use Rattle.rules.specs.Build.{greedy_rounds}
use Rattle.rules.specs.Edits.{before, after, swap, remove, replace, Trial, on_one, on_two}
use Rattle.greedy_laws.specs.Rooms.{Room}

-- a plan as trials find and leave it, lawful or not
pub record Shaped (day : List ℕ) (rounds : List Round) : Type 0 where
  pub known : Every (Every (Known day)) rounds
  pub rooms : Every Room rounds
  pub busy : Every (λ tasks. 0 < length (stops_on tasks)) rounds
  -- each stop stands as often as in the greedy plan
  pub once : (k : ℕ) → times k (stops_on_all rounds) ≡ times k (stops_on_all (greedy_rounds day))
  pub count : length (stops_on_all rounds) ≡ length (stops_on_all (greedy_rounds day))
  pub vehicles : length rounds ≡ length (greedy_rounds day)

-- a property of each vehicle and its number, counted on from a number
unfoldable pub EachFrom : (ℕ → Round → Type 0) → ℕ → List Round → Type 0
EachFrom P from [] = Unit {0}
EachFrom P from (tasks ∷ rounds) = P (suc from) tasks × EachFrom P (suc from) rounds

-- a stop stands once on the vehicle with a number, and on no other
unfoldable pub StandsOn : ℕ → ℕ → ℕ → Round → Type 0
StandsOn k number n tasks = times k (stops_on tasks) ≡ (if eqb n number then 1 else 0)

pub record On (day : List ℕ) (rounds : List Round) (k number : ℕ) : Type 0 where
  pub known : Known day (serve k)
  pub first : 1 ≤ number
  pub within : number ≤ length rounds
  pub once : times k (stops_on_all rounds) ≡ 1
  pub stands : EachFrom (StandsOn k number) 0 rounds

-- a trial that may be made of a plan: its stops differ and are on the vehicles that it touches, its tip is one of the day's
pub data Valid (day : List ℕ) (rounds : List Round) : Trial → Type 0 where
  moved_before : (i j number : ℕ) → (i ≡ j → ⊥) → On day rounds i number → On day rounds j number → Valid day rounds (on_one (before i j) number)
  moved_after : (i j number : ℕ) → (i ≡ j → ⊥) → On day rounds i number → On day rounds j number → Valid day rounds (on_one (after i j) number)
  swapped : (i j number other : ℕ) → (i ≡ j → ⊥) → (number ≡ other → ⊥) → On day rounds i number → On day rounds j other
      → Valid day rounds (on_two (swap i j) number other)
  removed : (at number : ℕ) → 1 ≤ number → number ≤ length rounds → Valid day rounds (on_one (remove at) number)
  replaced : (at x number : ℕ) → Known day (empty x) → 1 ≤ number → number ≤ length rounds → Valid day rounds (on_one (replace at x) number)
