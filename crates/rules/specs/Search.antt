-- The budgeted search: document 01, "Trials", and document 02, Q-12; over any kind of plan and of trial, and at the end from the greedy plan.
-- `lists p` are the trial lists of the plan p, one for each K; `attempt p m` is the lawful, shorter plan that the trial m of p gives, or none.
-- Document 01 has one K. Assumes nothing.
use Rattle.std.specs.Prelude.{ℕ, zero, suc, ◌+◌, ◌≡◌, Bool, true, false, length}
use Rattle.std.proofs.Math.Option.{Option, none, some}
use mathlib.Core.List.{List, [], ◌∷◌, ◌++◌, map, Memᴰ}
use Rattle.rules.specs.Plan.{Round}
use Rattle.rules.specs.Build.{greedy_rounds, greedy_lefts}
use Rattle.rules.specs.Edits.{Trial}
use Rattle.rules.specs.TrialList.{trial_list}
use Rattle.rules.specs.Attempts.{attempt}

-- what the search hands over: the plan, the number of trials made, and whether the plan is settled
pub record Result (P : Type 0) : Type 0 where
  pub plan : P
  pub trials : ℕ
  pub settled : Bool

-- the trials of some lists, one list behind the other
unfoldable pub in_turn : {M : Type 0} → List (List M) → List M
in_turn [] = []
in_turn (ms ∷ later) = ms ++ in_turn later

module _ {P M : Type 0} (lists : P → List (List M)) (attempt : P → M → Option P) where
  -- the plan p is held; of its lists the trials ms of the one at hand and those behind it are still to be made; made were made, and left remain
  -- of the budget. "Before each trial: whole list made and none kept, settled; else trials = budget, not settled." "Each trial made counts one."
  -- "The list starts anew from a kept plan": with several K "a kept trial returns to" the first, "a list with none kept goes to the next K",
  -- after the last "the plan is settled. One budget covers all."
  unfoldable pub run : (left : ℕ) → P → List (List M) → (made : ℕ) → Result P
  run zero p [] made = record { plan = p; trials = made; settled = true }
  run zero p ([] ∷ later) made = run zero p later made
  run zero p ((m ∷ ms) ∷ later) made = record { plan = p; trials = made; settled = false }
  run (suc left) p [] made = record { plan = p; trials = made; settled = true }
  run (suc left) p ([] ∷ later) made = run (suc left) p later made
  run (suc left) p ((m ∷ ms) ∷ later) made = elim (attempt p m) [ none ↦ run left p (ms ∷ later) (suc made) | some q ↦ run left q (lists q) (suc made) ]

  -- the search from a plan
  unfoldable pub improve : (budget : ℕ) → P → Result P
  improve budget p = run budget p (lists p) zero

  -- a plan is held after some trials, at the start of its lists: the first plan is, and so is the plan of each kept trial, which is the
  -- first of them to be kept. This mentions no budget and no run.
  pub data Held (first : P) : P → ℕ → Type 0 where
    start : Held first first zero
    kept : {p q : P} {made : ℕ} (done : List M) (m : M) (rest : List M) → Held first p made → in_turn (lists p) ≡ done ++ (m ∷ rest)
        → ((x : M) → Memᴰ x done → attempt p x ≡ none) → attempt p m ≡ some q → Held first q (made + length done + 1)

-- a plan's lists for these K
abbrev pub trial_lists : (day Ks : List ℕ) → List Round → List (List Trial)
trial_lists day Ks rounds = map (λ K. trial_list day K rounds) Ks

-- "that plan", the greedy one, "is worked over", by trials with these K
unfoldable pub searched : (day Ks : List ℕ) (budget : ℕ) → Result (List Round)
searched day Ks budget = improve (trial_lists day Ks) (attempt day (greedy_lefts day)) budget (greedy_rounds day)

-- growing neighbour sets: "5, 10, 25, 50"
abbrev pub growing_sets : List ℕ
growing_sets = 5 ∷ 10 ∷ 25 ∷ 50 ∷ []
