-- Demand 3, sentence by sentence, of calls that plan a day with trials, for any list of K, and as a whole of two calls with one K. Assumes nothing.
use Rattle.std.specs.Prelude.{if◌then◌else◌}
use Prim.Native.Nat.{ℕ, ◌+◌, ◌*◌, ◌≤◌, ◌<◌}
use mathlib.Core.Path.{◌≡◌, sym, ap, ◌∙◌}
use mathlib.Core.Bool.{true, false}
use mathlib.Core.List.{List, [], ◌∷◌}
use mathlib.Core.Logic.{◌↔◌}
use mathlib.Core.Option.{some}
use native.Mathlib.Omega.{arith}
use lib.ListN.{length, take}
use lib.Seq.{length-take-le}
use Rattle.rules.specs.Answers.{given}
use Rattle.rules.specs.Lists.{Every, times, total}
use Rattle.rules.specs.Fields.{stops, tips, IsAccepted}
use Rattle.rules.specs.Plan.{Round, plan_words, stops_on_all}
use Rattle.rules.specs.Lawful.{Lawful, totals}
use Rattle.rules.specs.Check.{check_plan}
use Rattle.rules.specs.Build.{greedy_rounds, greedy_lefts, could_take_first}
use Rattle.rules.specs.Edits.{Trial}
use Rattle.rules.specs.Attempts.{tried, distance_of, attempt}
use Rattle.rules.specs.Search.{in_turn, Held, trial_lists, searched}
use Rattle.rules.specs.Planned.{plan_answer, plan_buffer}
use Rattle.rules.specs.Demands.{NoneShorter, PlannedBy, DemandThree}
use Rattle.plan_laws.proofs.Theorems.{lawful_totals}
use Rattle.search_laws.proofs.KeptTrials.{attempt_kept}
use Rattle.search_laws.proofs.NoneShorter.{check_lawful}
use Rattle.search_steps.proofs.Promises.{promised, larger_budget}
use Rattle.planner.proofs.PlanDemands.{planned_by, planned_lefts, planned_missed, plan_is, plan_leaves}
use Rattle.promises.specs.Supposed.{Supposed, Called}

-- one call that plans an accepted day with n stops, with any list of K, in buffers of 5n words or more
module _ {day Ks : List ℕ} {budget : ℕ} {plan : List ℕ} {work : ℕ} {answer buffer : List ℕ} (c : Called day Ks budget plan work answer buffer) where
  abbrev pub call : PlannedBy day Ks budget answer buffer
  call = planned_by day Ks c.accepted budget plan work c.plan_long c.work_long c.answers c.leaves

  -- the plan is "exactly the one that document 01's build and trials give for its budget"
  pub plan_exactly : take call.words buffer ≡ plan_words (searched day Ks budget).plan (greedy_lefts day)
  plan_exactly = call.exactly

  -- its answer: distance, trials, 1 where settled and else 0, stops left out, words
  pub plan_answered : answer ≡ given (call.distance ∷ call.trials ∷ (if call.settled then 1 else 0) ∷ length call.lawful.lefts ∷ call.words ∷ [])
  plan_answered = call.answered

  -- it is "lawful"
  pub plan_lawful : Lawful day (take call.words buffer)
  plan_lawful = call.lawful

  -- the check answers with its distance, its vehicles and its stops served
  pub plan_checked : check_plan day (take call.words buffer) ≡ given (totals day call.lawful.rounds)
  plan_checked = lawful_totals day (take call.words buffer) c.accepted call.lawful

  -- five words for each stop are enough for it
  pub plan_room : call.words ≤ 5 * stops day
  plan_room =
      omega (arith, length-take-le call.words buffer call.inside, ap length call.exactly, (promised day Ks budget c.accepted).fits)

  -- it serves the stops that the greedy plan serves, each as often, and leaves out the greedy plan's
  pub same_served : (k : ℕ) → times k (stops_on_all call.lawful.rounds) ≡ times k (stops_on_all (greedy_rounds day))
  same_served k = ap (λ (rounds : List Round). times k (stops_on_all rounds)) call.rounds ∙ (promised day Ks budget c.accepted).served k

  pub greedy_left_out : call.lawful.lefts ≡ greedy_lefts day
  greedy_left_out = planned_lefts day Ks c.accepted budget plan work c.plan_long c.work_long c.answers c.leaves

  -- of the stops left out, "none of which a fresh vehicle could take first"
  pub none_first : Every (λ k. could_take_first day k ≡ false) call.lawful.lefts
  none_first = call.left_out

  -- its distance is "at most D, the greedy plan's"
  pub no_longer_than_greedy : call.distance ≤ distance_of day (greedy_rounds day)
  no_longer_than_greedy = call.no_longer

  -- it is the greedy plan worked over: held after so many trials, each of its lists in turn, and each plan held comes of the first trial of
  -- those lists to be kept
  pub held_in_turn : Held (trial_lists day Ks) (attempt day (greedy_lefts day)) (greedy_rounds day) call.lawful.rounds call.before
  held_in_turn = call.held

  -- its trial count is "the number of trials that document 01's steps make", "within its budget"
  pub trials_counted : call.trials ≡ (searched day Ks budget).trials
  trials_counted = call.counted

  pub trials_within : call.trials ≤ budget
  trials_within = call.within

  -- "settled is said of a plan exactly when every trial listed for it was made within its budget and none gives a lawful, shorter plan"
  pub settled_when_lem : (call.settled ≡ true)
      ↔ ((call.before + length (in_turn (trial_lists day Ks call.lawful.rounds)) ≤ budget) × NoneShorter day Ks call.lawful.rounds call.lawful.lefts)
  settled_when_lem = call.settled_when

  -- settled, the count is that of the trials up to the plan and of all that are listed for it
  pub settled_whole : call.settled ≡ true → call.trials ≡ call.before + length (in_turn (trial_lists day Ks call.lawful.rounds))
  settled_whole = call.whole

  -- "otherwise its count equals its budget", and a trial listed for the plan was not made
  pub not_settled_spent : call.settled ≡ false → call.trials ≡ budget
  not_settled_spent = call.spent

  pub not_settled_missed : call.settled ≡ false → call.trials < call.before + length (in_turn (trial_lists day Ks call.lawful.rounds))
  not_settled_missed = planned_missed day Ks c.accepted budget plan work c.plan_long c.work_long c.answers c.leaves

  -- a budget of (D + 1) × n × (2K + d) or more, these added up for all K, always settles
  pub budget_settles : (distance_of day (greedy_rounds day) + 1) * stops day * total (λ K. 2 * K + tips day) Ks ≤ budget → call.settled ≡ true
  budget_settles = call.settles

-- two such calls, with two budgets, the second no smaller
module _ {day Ks : List ℕ} {budget larger : ℕ} {first second : List ℕ} {work spare : ℕ} {firstAnswer firstNow second_answer secondNow : List ℕ}
    (c : Called day Ks budget first work firstAnswer firstNow) (d : Called day Ks larger second spare second_answer secondNow) (h : budget ≤ larger) where
  -- they "leave out the same stops"
  pub same_left_out : (call c).lawful.lefts ≡ (call d).lawful.lefts
  same_left_out = greedy_left_out c ∙ sym (greedy_left_out d)

  -- "the second's distance is at most the first's"
  pub larger_no_longer : (call d).distance ≤ (call c).distance
  larger_no_longer =
      let one = (call c).drives ∙ ap (distance_of day) (call c).rounds in
      let two = (call d).drives ∙ ap (distance_of day) (call d).rounds in
      omega (arith, one, two, larger_budget day Ks budget larger h)

  -- the whole of demand 3
  pub both_called : DemandThree day Ks budget larger firstAnswer firstNow second_answer secondNow
  both_called = record { one = call c; two = call d; same = same_left_out; no_longer = larger_no_longer }

-- with one K from 1 to 50: two calls of `plan`; the second finds the working buffer as long as the first
module _ {day : List ℕ} {K budget : ℕ} {plan : List ℕ} {work : ℕ} {answer buffer : List ℕ} (l : 1 ≤ K) (m : K ≤ 50) where
  called : IsAccepted day → 5 * stops day ≤ length plan → 5 * stops day ≤ work → answer ≡ plan_answer day K budget (length plan) work
      → buffer ≡ plan_buffer day K budget work plan → Called day (K ∷ []) budget plan work answer buffer
  called ok p q a b =
      record { accepted = ok; plan_long = p; work_long = q; answers = a ∙ plan_is day ok K budget l m plan work; leaves = b ∙ plan_leaves day ok K budget l m plan work }

pub demand_three : {day : List ℕ} {K budget larger : ℕ} (first second : List ℕ) {work spare : ℕ} → 1 ≤ K → K ≤ 50
    → Supposed day budget larger (length first) (length second) work → spare ≡ work → {firstAnswer firstNow second_answer secondNow : List ℕ}
    → firstAnswer ≡ plan_answer day K budget (length first) work → firstNow ≡ plan_buffer day K budget work first
    → second_answer ≡ plan_answer day K larger (length second) spare → secondNow ≡ plan_buffer day K larger spare second
    → DemandThree day (K ∷ []) budget larger firstAnswer firstNow second_answer secondNow
demand_three {day} first second {spare = spare} l m s w a b c d =
    let long : 5 * stops day ≤ spare = omega (arith, w, s.work_long) in
    both_called (called l m s.accepted s.first_long s.work_long a b) (called l m s.accepted s.second_long long c d) s.no_smaller

-- "a budget of (D + 1) × n × (2K + d) or more always settles"
pub one_settles : {day : List ℕ} {K budget : ℕ} {plan : List ℕ} {work : ℕ} {answer buffer : List ℕ} (c : Called day (K ∷ []) budget plan work answer buffer)
    → (distance_of day (greedy_rounds day) + 1) * stops day * (2 * K + tips day) ≤ budget → (call c).settled ≡ true
unfolding total
one_settles {day} {K} c h = let one : 2 * K + tips day + 0 ≡ 2 * K + tips day = omega arith in budget_settles c (rw one h)

-- of the definition

-- a trial that is kept gives a plan that is lawful and shorter
pub kept_when : (day lefts : List ℕ) → IsAccepted day → (rounds : List Round) (m : Trial) (other : List Round) → attempt day lefts rounds m ≡ some other
    → (tried day rounds m ≡ some other) × (distance_of day other < distance_of day rounds) × Lawful day (plan_words other lefts)
kept_when day lefts ok rounds m other e =
    let k = attempt_kept day lefts rounds m other e in (k.given, k.shorter, (check_lawful day lefts ok other).0 k.lawful)
