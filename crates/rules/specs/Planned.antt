-- What the calls that build and that plan with trials say, and what the plan's buffer then holds: document 01, "Trials" and "What can be
-- refused"; document 02, Q-12. Assumes nothing.
use Rattle.std.specs.Prelude.{ℕ, ◌-◌, ◌*◌, ◌≡◌, Bool, false, ◌&&◌, List, [], ◌∷◌, ◌++◌, ltb, leb, length, replicate, if◌then◌else◌}
use Rattle.rules.specs.Answers.{given, refused, is_given}
use Rattle.rules.specs.Lists.{total, over}
use Rattle.rules.specs.DayFile.{judge_day}
use Rattle.rules.specs.Fields.{stops}
use Rattle.rules.specs.Plan.{Round, plan_words}
use Rattle.rules.specs.Lawful.{distance_from}
use Rattle.rules.specs.Build.{greedy_rounds, greedy_lefts, greedy_plan}
use Rattle.rules.specs.Attempts.{distance_of}
use Rattle.rules.specs.Search.{Result, searched, growing_sets}

-- what the build answers on an accepted day: "14 lent buffer too short (place: words needed; planning needs 5n in the plan buffer)", else the
-- values of the greedy plan
unfoldable pub built_answer : List ℕ → ℕ → List ℕ
built_answer day room =
    if ltb room (5 * stops day) then refused 14 (5 * stops day)
    else given (total (distance_from day 0) (greedy_rounds day) ∷ 0 ∷ 0 ∷ length (greedy_lefts day) ∷ length (greedy_plan day) ∷ [])

-- "after success the plan buffer is zero from the plan's end to 5n, as before beyond"
unfoldable pub planned : List ℕ → List ℕ → List ℕ → List ℕ
planned day words plan = over (words ++ replicate (5 * stops day - length words) 0) plan

unfoldable pub built_buffer : List ℕ → List ℕ → List ℕ
built_buffer day plan = if ltb (length plan) (5 * stops day) then plan else planned day (greedy_plan day) plan

-- and on any day: refusals 1 to 5 first
unfoldable pub build_answer : List ℕ → ℕ → List ℕ
build_answer day room = if is_given (judge_day day) then built_answer day room else judge_day day

-- "each refusal changes no buffer"
unfoldable pub build_buffer : List ℕ → List ℕ → List ℕ
build_buffer day plan = if is_given (judge_day day) then built_buffer day plan else plan

-- "13 K outside 1..50"
unfoldable pub few_neighbours : ℕ → Bool
few_neighbours K = leb 1 K && leb K 50

-- "14 lent buffer too short": "5n in the plan buffer, judged first, and 5n in the working buffer"
unfoldable pub long_enough : List ℕ → ℕ → ℕ → Bool
long_enough day room spare = leb (5 * stops day) room && leb (5 * stops day) spare

-- distance, trials, 1 where the plan is settled and else 0, stops left out, words
unfoldable pub result_values : List ℕ → Result (List Round) → List ℕ
result_values day r =
    distance_of day r.plan ∷ r.trials ∷ (if r.settled then 1 else 0) ∷ length (greedy_lefts day) ∷ length (plan_words r.plan (greedy_lefts day)) ∷ []

-- what planning with trials answers on an accepted day, with these K: 14 ("place: words needed"), else what the search hands over
unfoldable pub search_answer : (day Ks : List ℕ) (budget room spare : ℕ) → List ℕ
search_answer day Ks budget room spare = if long_enough day room spare then given (result_values day (searched day Ks budget)) else refused 14 (5 * stops day)

-- "after success the plan buffer is zero from the plan's end to 5n, as before beyond"; "each refusal changes no buffer"
unfoldable pub search_buffer : (day Ks : List ℕ) (budget spare : ℕ) → List ℕ → List ℕ
search_buffer day Ks budget spare plan =
    if long_enough day (length plan) spare then planned day (plan_words (searched day Ks budget).plan (greedy_lefts day)) plan else plan

-- and on any day, with one K: refusals 1 to 5 first, then 13
unfoldable pub plan_answer : List ℕ → (K budget room spare : ℕ) → List ℕ
plan_answer day K budget room spare =
    if is_given (judge_day day) then (if few_neighbours K then search_answer day (K ∷ []) budget room spare else refused 13 K) else judge_day day

unfoldable pub plan_buffer : List ℕ → (K budget spare : ℕ) → List ℕ → List ℕ
plan_buffer day K budget spare plan = if is_given (judge_day day) && few_neighbours K then search_buffer day (K ∷ []) budget spare plan else plan

-- with growing neighbour sets: no 13
unfoldable pub growing_answer : List ℕ → (budget room spare : ℕ) → List ℕ
growing_answer day budget room spare = if is_given (judge_day day) then search_answer day growing_sets budget room spare else judge_day day

unfoldable pub growing_buffer : List ℕ → (budget spare : ℕ) → List ℕ → List ℕ
growing_buffer day budget spare plan = if is_given (judge_day day) then search_buffer day growing_sets budget spare plan else plan

-- "each refusal changes no buffer"; after an answer "the working buffer's words are free"
abbrev pub SpareKept : (answer before after : List ℕ) → Type 0
SpareKept answer before after = is_given answer ≡ false → after ≡ before
