-- What is promised: demand 1's refusals, and demand 3 of two calls that plan, with one K or with several. Demand 2 is `Lawful`. Assumes nothing.
use Rattle.std.specs.Prelude.{ℕ, ◌+◌, ◌*◌, ◌≤◌, ◌≡◌, Bool, true, false, ◌↔◌, length, take, if◌then◌else◌}
use mathlib.Core.List.{List, [], ◌∷◌, Memᴰ}
use Rattle.std.proofs.Math.Option.{some}
use Rattle.rules.specs.Answers.{given, refused}
use Rattle.rules.specs.Lists.{Every, mem, total}
use Rattle.rules.specs.Fields.{stops, tips}
use Rattle.rules.specs.Plan.{Round, plan_words}
use Rattle.rules.specs.Lawful.{Lawful}
use Rattle.rules.specs.Build.{greedy_rounds, greedy_lefts, could_take_first}
use Rattle.rules.specs.Edits.{Trial}
use Rattle.rules.specs.TrialList.{trial_list}
use Rattle.rules.specs.Attempts.{tried, distance_of, attempt}
use Rattle.rules.specs.Search.{in_turn, Held, trial_lists, searched}

-- demand 1: "an answer or one of refusals"
pub data AnswersBy (numbers : List ℕ) : List ℕ → Type 0 where
  answer : (values : List ℕ) → AnswersBy numbers (given values)
  refusal : (number place : ℕ) → mem number numbers ≡ true → AnswersBy numbers (refused number place)

-- "none gives a lawful, shorter plan", of the trials listed for a plan: "no shorter lawful trial for any of" the K
pub record NoneShorter (day Ks : List ℕ) (rounds : List Round) (lefts : List ℕ) : Type 0 where
  pub none : (K : ℕ) → Memᴰ K Ks → (m : Trial) → Memᴰ m (trial_list day K rounds) → (other : List Round) → tried day rounds m ≡ some other
      → Lawful day (plan_words other lefts) → distance_of day rounds ≤ distance_of day other

-- what demand 3 says of one call: of its answer, and of the plan at the front of its buffer
pub record PlannedBy (day Ks : List ℕ) (budget : ℕ) (answer buffer : List ℕ) : Type 0 where
  pub distance : ℕ
  pub trials : ℕ
  pub settled : Bool
  pub words : ℕ
  -- "lawful"
  pub lawful : Lawful day (take words buffer)
  pub inside : words ≤ length buffer
  pub answered : answer ≡ given (distance ∷ trials ∷ (if settled then 1 else 0) ∷ length lawful.lefts ∷ words ∷ [])
  -- "exactly the one that document 01's build and trials give for its budget"
  pub exactly : take words buffer ≡ plan_words (searched day Ks budget).plan (greedy_lefts day)
  pub rounds : lawful.rounds ≡ (searched day Ks budget).plan
  -- the stops left out, "none of which a fresh vehicle could take first"
  pub left_out : Every (λ k. could_take_first day k ≡ false) lawful.lefts
  -- its distance, "at most D, the greedy plan's"
  pub drives : distance ≡ distance_of day lawful.rounds
  pub no_longer : distance ≤ distance_of day (greedy_rounds day)
  -- "the number of trials that document 01's steps make, within its budget"
  pub counted : trials ≡ (searched day Ks budget).trials
  pub within : trials ≤ budget
  -- so many were made when the plan was first held, each of a list in turn
  pub before : ℕ
  pub held : Held (trial_lists day Ks) (attempt day (greedy_lefts day)) (greedy_rounds day) lawful.rounds before
  -- "settled is said of a plan exactly when every trial listed for it was made within its budget and none gives a lawful, shorter plan"
  pub settled_when : (settled ≡ true)
      ↔ ((before + length (in_turn (trial_lists day Ks lawful.rounds)) ≤ budget) × NoneShorter day Ks lawful.rounds lawful.lefts)
  pub whole : settled ≡ true → trials ≡ before + length (in_turn (trial_lists day Ks lawful.rounds))
  -- "otherwise its count equals its budget"
  pub spent : settled ≡ false → trials ≡ budget
  -- "a budget of (D + 1) × n × (2K + d) or more always settles"; with several K these are added up
  pub settles : (distance_of day (greedy_rounds day) + 1) * stops day * total (λ K. 2 * K + tips day) Ks ≤ budget → settled ≡ true

-- demand 3: two budgets, the second no smaller
pub record DemandThree (day Ks : List ℕ) (budget larger : ℕ) (firstAnswer first second_answer second : List ℕ) : Type 0 where
  pub one : PlannedBy day Ks budget firstAnswer first
  pub two : PlannedBy day Ks larger second_answer second
  -- they "leave out the same stops"
  pub same : one.lawful.lefts ≡ two.lawful.lefts
  -- "the second's distance is at most the first's"
  pub no_longer : two.distance ≤ one.distance
