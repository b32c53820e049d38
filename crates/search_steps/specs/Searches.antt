-- The search while it goes on, as the code has it. It serves the contracts of the functions that begin a search, go on with it and end it. Assumes nothing.
use Rattle.std.specs.Prelude.{ℕ, ◌+◌, ◌*◌, ◌-◌, ◌≤◌, ◌<◌, ◌≡◌, Bool, true, false, List, ◌∷◌, eqb, length, take, drop, get_or, if◌then◌else◌}
use Rattle.rules.specs.Lists.{Every}
use Rattle.rules.specs.Plan.{Round, plan_words}
use Rattle.rules.specs.Build.{greedy_lefts}
use Rattle.rules.specs.Edits.{Trial}
use Rattle.rules.specs.Attempts.{distance_of, attempt}
use Rattle.rules.specs.Search.{run, trial_lists, searched}
use Rattle.trial_list.specs.Listing.{CursorFits}
use Rattle.trial_list.specs.Shapes.{Shaped, Valid}
use Rattle.trial_list.specs.Survey.{Surveyed}
use Rattle.trial_list.specs.TrialRest.{rest_of, list_start, listed_trial}
use Rattle.trial_list.specs.declared.listing.Cursor.{Cursor}
use Rattle.trial_list.specs.declared.listing.Trial as Code
use Rattle.tracks.specs.Tables.{TrackedIn}
use Rattle.tracks.specs.declared.plan_tables.Tables.{Tables}
use Rattle.search_steps.specs.declared.steps.Search.{Search}
use Rattle.search_steps.specs.declared.steps.Standing.{Standing}
use Rattle.search_steps.specs.declared.steps.Standing.TheVariants as Standings

-- a plan of these words is one that trials work on
pub record PlanAt (day buffer : List ℕ) (words : ℕ) (rounds : List Round) : Type 0 where
  pub shaped : Shaped day rounds
  pub fits : words ≤ length buffer
  pub text : take words buffer ≡ plan_words rounds (greedy_lefts day)

pub record SomePlanAt (day buffer : List ℕ) (words : ℕ) : Type 0 where
  pub rounds : List Round
  pub plan_at : PlanAt day buffer words rounds

-- the words are those of a plan that trials work on
pub record SomeHeld (day plan : List ℕ) : Type 0 where
  pub rounds : List Round
  pub shaped : Shaped day rounds
  pub text : plan ≡ plan_words rounds (greedy_lefts day)

-- the tables of such a plan
pub record TablesOf (day : List ℕ) (rounds : List Round) (tables : Tables) (count : ℕ) : Type 0 where
  pub surveyed : Surveyed day rounds tables.starts tables.vehicles tables.distances count
  pub tracked : TrackedIn day rounds tables.tracks

abbrev pub MakesTables : List ℕ → List ℕ → Tables → ℕ → Type 0
MakesTables day plan tables count =
    (rounds : List Round) → Shaped day rounds → plan ≡ plan_words rounds (greedy_lefts day) → TablesOf day rounds tables count

-- the plan is taken over, and its tables are made
pub record TakenOver (day plan : List ℕ) (words : ℕ) (rounds : List Round) (tables : Tables) (count : ℕ) : Type 0 where
  pub plan_at : PlanAt day plan words rounds
  pub surveyed : Surveyed day rounds tables.starts tables.vehicles tables.distances count
  pub tracked : TrackedIn day rounds tables.tracks

-- so it is, whatever vehicles have these words
abbrev pub TakesOver : List ℕ → List ℕ → ℕ → List ℕ → Tables → ℕ → Type 0
TakesOver day buffer words plan tables count =
    (rounds : List Round) → PlanAt day buffer words rounds → TakenOver day plan words rounds tables count

-- the K at hand, of those that are asked for in turn
abbrev pub k_at : (Ks : List ℕ) (stage : ℕ) → ℕ
k_at Ks stage = get_or Ks stage 0

-- the last
abbrev pub last_k : (Ks : List ℕ) → ℕ
last_k Ks = k_at Ks (length Ks - 1)

-- some K are asked for; the last is the greatest, and a table of neighbours has room for it
pub record SetsFit (Ks : List ℕ) : Type 0 where
  pub some : 0 < length Ks
  pub greatest : (stage : ℕ) → stage < length Ks → k_at Ks stage ≤ last_k Ks
  pub most : last_k Ks ≤ 50

-- the lists that are still to be made of the plan held: that of the K at hand from the cursor on, and those of the K behind it
abbrev pub lists_left : (day Ks : List ℕ) → List Round → (stage : ℕ) → Cursor → List (List Trial)
lists_left day Ks rounds stage cursor = rest_of day (k_at Ks stage) rounds cursor ∷ trial_lists day (drop (stage + 1) Ks) rounds

-- the search goes on with these lists as it does from the greedy plan
abbrev pub GoesOn : (day Ks : List ℕ) (budget : ℕ) → List Round → (made stage : ℕ) → Cursor → Type 0
GoesOn day Ks budget rounds made stage cursor =
    run (trial_lists day Ks) (attempt day (greedy_lefts day)) (budget - made) rounds (lists_left day Ks rounds stage cursor) made ≡ searched day Ks budget

-- trials are still to be made of the plan held
pub record Going (day Ks : List ℕ) (budget : ℕ) (starts : List ℕ) (rounds : List Round) (s : Search) : Type 0 where
  pub staged : s.stage < length Ks
  pub fits : CursorFits starts s.count s.cursor
  pub valid : Every (Valid day rounds) (rest_of day (k_at Ks s.stage) rounds s.cursor)
  pub same : GoesOn day Ks budget rounds s.made s.stage s.cursor

-- where the search stands: it goes on, or it has ended, and then its plan is settled or not
abbrev pub is_going : Standing → Bool
is_going Standings.Going = true
is_going Standings.Spent = false
is_going Standings.Settled = false

abbrev pub is_settled : Standing → Bool
is_settled Standings.Going = false
is_settled Standings.Spent = false
is_settled Standings.Settled = true

-- the search, going on or ended
pub record Searching (day Ks : List ℕ) (budget : ℕ) (plan : List ℕ) (tables : Tables) (s : Search) : Type 0 where
  pub rounds : List Round
  pub held : TakenOver day plan s.words rounds tables s.count
  pub drives : s.distance ≡ distance_of day rounds
  pub within : s.made ≤ budget
  pub going : is_going s.standing ≡ true → Going day Ks budget tables.starts rounds s
  pub done : is_going s.standing ≡ false → record { plan = rounds; trials = s.made; settled = is_settled s.standing } ≡ searched day Ks budget

-- the list at hand is at its end: that of the next K begins, or behind the last the search has ended, settled
abbrev pub next_list : (Ks : List ℕ) → Search → Search
next_list Ks s = record s { stage = s.stage + 1; cursor = list_start; standing = if eqb (s.stage + 1) (length Ks) then Standings.Settled else Standings.Going }

-- trials and lists to come: each step makes a trial, goes to the next K or ends the search
abbrev pub steps_left : (Ks : List ℕ) (budget : ℕ) → Search → ℕ
steps_left Ks budget s = if is_going s.standing then (budget - s.made) * (length Ks + 1) + (length Ks - s.stage) else 0

-- a step on, the search goes on or has ended, and less is to come
abbrev pub StepsTo : (day Ks : List ℕ) (budget : ℕ) (plan : List ℕ) → Tables → (before after : Search) → Type 0
StepsTo day Ks budget plan tables before after = Searching day Ks budget plan tables after × (steps_left Ks budget after < steps_left Ks budget before)

-- the trial m of the plan held is listed and may be made, and the list goes on behind it
pub record Ahead (day Ks : List ℕ) (budget : ℕ) (plan : List ℕ) (tables : Tables) (s : Search) (m : Trial) (next : Cursor) : Type 0 where
  pub rounds : List Round
  pub held : TakenOver day plan s.words rounds tables s.count
  pub drives : s.distance ≡ distance_of day rounds
  pub left : s.made < budget
  pub on : is_going s.standing ≡ true
  pub staged : s.stage < length Ks
  pub ms : rest_of day (k_at Ks s.stage) rounds s.cursor ≡ m ∷ rest_of day (k_at Ks s.stage) rounds next
  pub valid : Every (Valid day rounds) (rest_of day (k_at Ks s.stage) rounds next)
  pub may_be : Valid day rounds m
  pub fits : CursorFits tables.starts s.count next
  pub same : GoesOn day Ks budget rounds s.made s.stage s.cursor

abbrev pub NextTrial : List ℕ → List ℕ → ℕ → List ℕ → Tables → Search → Code.Trial → Cursor → Type 0
NextTrial day Ks budget plan tables s m next = Ahead day Ks budget plan tables s (listed_trial m) next

-- the greedy plan is held, and no trial is made yet
abbrev pub BeginsAll : List ℕ → List ℕ → Tables → Search → Type 0
BeginsAll day plan tables s =
    (Ks : List ℕ) (budget : ℕ) → 0 < length Ks → Searching day Ks budget plan tables s
