-- What is promised of the plan that a search with these K hands over. Assumes nothing.
use Rattle.std.specs.Prelude.{ℕ, ◌+◌, ◌*◌, ◌≤◌, ◌<◌, ◌≡◌, true, false, ◌↔◌, length}
use mathlib.Core.List.{List, Memᴰ}
use Rattle.std.proofs.Math.Option.{none}
use Rattle.rules.specs.Answers.{given}
use Rattle.rules.specs.Lists.{Every, times, total}
use Rattle.rules.specs.Fields.{stops, tips}
use Rattle.rules.specs.Plan.{Round, plan_words, stops_on_all}
use Rattle.rules.specs.Lawful.{Lawful, totals}
use Rattle.rules.specs.Check.{check_plan}
use Rattle.rules.specs.Build.{greedy_rounds, greedy_lefts, could_take_first}
use Rattle.rules.specs.Edits.{Trial}
use Rattle.rules.specs.Attempts.{distance_of, attempt}
use Rattle.rules.specs.Search.{Result, in_turn, Held, trial_lists, searched}

-- of a result
pub record PromisedOf (day Ks : List ℕ) (budget : ℕ) (r : Result (List Round)) : Type 0 where
  -- lawful, with these vehicles and the greedy plan's stops left out: the check answers with distance, vehicles and stops served
  pub lawful : Lawful day (plan_words r.plan (greedy_lefts day))
  pub rounds : lawful.rounds ≡ r.plan
  pub lefts : lawful.lefts ≡ greedy_lefts day
  pub answered : check_plan day (plan_words r.plan (greedy_lefts day)) ≡ given (totals day r.plan)
  -- five words for each stop are enough
  pub fits : length (plan_words r.plan (greedy_lefts day)) ≤ 5 * stops day
  -- the stops served are the greedy plan's, and of those left out a fresh vehicle could take none first
  pub served : (k : ℕ) → times k (stops_on_all r.plan) ≡ times k (stops_on_all (greedy_rounds day))
  pub left_out : Every (λ k. could_take_first day k ≡ false) (greedy_lefts day)
  -- never longer than the greedy plan
  pub no_longer : distance_of day r.plan ≤ distance_of day (greedy_rounds day)
  -- the plan was held after so many trials, each made in turn and kept only as the first of its lists
  pub at : ℕ
  pub held : Held (trial_lists day Ks) (attempt day (greedy_lefts day)) (greedy_rounds day) r.plan at
  -- the trial count is the number made, within the budget: those up to the plan, and its lists whole where settled; not settled,
  -- the budget is gone and the lists not yet made
  pub since : at ≤ r.trials
  pub within : r.trials ≤ budget
  pub spent : r.settled ≡ false → r.trials ≡ budget
  pub missed : r.settled ≡ false → r.trials < at + length (in_turn (trial_lists day Ks r.plan))
  pub whole : r.settled ≡ true → r.trials ≡ at + length (in_turn (trial_lists day Ks r.plan))
  -- settled exactly when every trial listed for the plan was made within the budget and none gives a lawful, shorter plan
  pub settled_when : (r.settled ≡ true)
      ↔ ((at + length (in_turn (trial_lists day Ks r.plan)) ≤ budget)
      × ((m : Trial) → Memᴰ m (in_turn (trial_lists day Ks r.plan)) → attempt day (greedy_lefts day) r.plan m ≡ none))
  -- a budget that settles
  pub settles : (distance_of day (greedy_rounds day) + 1) * stops day * total (λ K. 2 * K + tips day) Ks ≤ budget → r.settled ≡ true

-- and so of the search
abbrev pub Promised : List ℕ → List ℕ → ℕ → Type 0
Promised day Ks budget = PromisedOf day Ks budget (searched day Ks budget)
