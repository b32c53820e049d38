-- What the check hands on over many words, or a part of the plan. It serves contracts; no definition of the check rests on it. Assumes
-- nothing.
use Rattle.std.specs.Prelude.{ℕ, zero, suc, ◌+◌, ◌<◌, ◌≤◌, ◌≡◌, Bool, true, false, List, [], ◌∷◌, ltb, length, get_or, drop, replicate, if◌then◌else◌}
use Rattle.rules.specs.Answers.{given, refused}
use Rattle.rules.specs.Lists.{mem, unmet}
use Rattle.rules.specs.Fields.{stops}
use Rattle.rules.specs.PlanWords.{word_of}
use Rattle.rules.specs.Cargo.{empty}
use Rattle.rules.specs.Trip.{leaving}
use Rattle.rules.specs.Check.{met_after, Walk, start, check_from}
use Rattle.rules.specs.declared.walk.Cargo.{Cargo}
use Rattle.rules.specs.declared.walk.Tally.{Tally}
use Rattle.rules.specs.declared.walk.Trip.{Trip}
use Rattle.word_steps.specs.declared.steps.State.{State}
use Rattle.trips.specs.Trips.{TallyWithin}
use Rattle.word_steps.specs.Steps.{is_met, Within}
use Rattle.plan_parts.specs.declared.parts.Part.{Part}

-- no stop is met
unfoldable pub none_met : List Bool
none_met = replicate 256 false

-- the walk that a state and the stops met so far make up
abbrev pub walk_of : State → List ℕ → Walk
walk_of s met = record { tally = s.tally; cargo = s.cargo; trip = s.trip; met = met }

-- the answer at the plan's end, by how many stops are served or left out of how many
unfoldable pub end_of : ℕ → ℕ → Tally → List ℕ
end_of most i y =
    if y.inside then refused 7 i
    else if ltb (y.served + y.left) most then refused 8 i
    else given (y.distance ∷ y.vehicles ∷ y.served ∷ [])

-- the stops met by the first so many words
unfoldable pub met_by : List ℕ → ℕ → List ℕ
met_by plan zero = []
met_by plan (suc i) = met_after (met_by plan i) (word_of (get_or plan i 0))

-- after so many words, none at fault: what is left to check, the bounds, the marks of the stops met, and their number
pub record Reached (day plan : List ℕ) (i : ℕ) (s : State) (met : List Bool) : Type 0 where
  pub remains : check_from day (drop i plan) i (walk_of s (met_by plan i)) ≡ check_from day plan 0 (start day)
  pub within : Within day i s
  pub long : length met ≡ 256
  pub marks : (k : ℕ) → 0 < k → k < 256 → is_met met k ≡ mem k (met_by plan i)
  pub count : unmet (stops day) (met_by plan i) + (s.tally.served + s.tally.left) ≡ stops day

-- a vehicle that is out: the plan as it was when the vehicle left, but for the stops that the vehicle served since
abbrev pub out_with : Tally → Cargo → Trip → State
out_with y c t =
    record {
      tally = record { inside = true; vehicles = y.vehicles; served = y.served + c.visits; left = y.left; last = y.last; distance = y.distance };
      cargo = c;
      trip = t;
    }

-- a vehicle that has just left
abbrev pub Leaves : List ℕ → List ℕ → ℕ → Tally → List Bool → Type 0
Leaves day plan i y met = Reached day plan i (out_with y empty (leaving day)) met

-- a part of the plan is behind, with no word at fault
pub record PartTo (day plan : List ℕ) (met : List Bool) (from : ℕ) (r : Part) : Type 0 where
  pub more : from < r.end
  pub most : r.end ≤ length plan
  pub reached : Reached day plan r.end r.state met

-- all words are behind, with none at fault: the tally then
pub record ToldAll (day plan : List ℕ) (y : Tally) : Type 0 where
  pub small : TallyWithin 4096 y
  pub same : end_of (stops day) (length plan) y ≡ check_from day plan 0 (start day)
