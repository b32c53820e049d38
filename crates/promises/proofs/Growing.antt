-- Document 02, Q-12, of calls that plan a day with growing neighbour sets: what DemandThree says of any list of K, for 5, 10, 25 and 50.
-- Assumes nothing.
use Prim.Native.Nat.{ℕ, ◌+◌, ◌*◌, ◌≤◌}
use mathlib.Core.Path.{◌≡◌, ◌∙◌}
use mathlib.Core.Bool.{true}
use mathlib.Core.List.{List, Memᴰ}
use mathlib.Core.Option.{some}
use native.Mathlib.Omega.{arith}
use lib.ListN.{length}
use Rattle.rules.specs.Lists.{total}
use Rattle.rules.specs.Fields.{stops, tips, IsAccepted}
use Rattle.rules.specs.Plan.{Round, plan_words}
use Rattle.rules.specs.Lawful.{Lawful}
use Rattle.rules.specs.Build.{greedy_rounds}
use Rattle.rules.specs.Edits.{Trial}
use Rattle.rules.specs.TrialList.{trial_list}
use Rattle.rules.specs.Attempts.{tried, distance_of}
use Rattle.rules.specs.Search.{growing_sets}
use Rattle.rules.specs.Planned.{growing_answer, growing_buffer}
use Rattle.rules.specs.Demands.{DemandThree}
use Rattle.planner.proofs.PlanDemands.{growing_is, growing_leaves}
use Rattle.promises.specs.Supposed.{Supposed, Called}
use Rattle.promises.proofs.DemandThree.{call, settled_when_lem, budget_settles, both_called}

-- 2K + d, added up for the four
four_added : (day : List ℕ) → total (λ K. 2 * K + tips day) growing_sets ≡ 180 + 4 * tips day
unfolding total
four_added day = omega arith

module _ {day : List ℕ} {budget : ℕ} {plan : List ℕ} {work : ℕ} {answer buffer : List ℕ} where
  -- a call
  called : IsAccepted day → 5 * stops day ≤ length plan → 5 * stops day ≤ work → answer ≡ growing_answer day budget (length plan) work
      → buffer ≡ growing_buffer day budget work plan → Called day growing_sets budget plan work answer buffer
  called ok p q a b =
      record { accepted = ok; plan_long = p; work_long = q; answers = a ∙ growing_is day ok budget plan work; leaves = b ∙ growing_leaves day ok budget plan work }

  module _ (c : Called day growing_sets budget plan work answer buffer) where
    -- "a settled result then has no shorter lawful trial for any of the four"
    pub none_for_any : (call c).settled ≡ true → (K : ℕ) → Memᴰ K growing_sets → (m : Trial) → Memᴰ m (trial_list day K (call c).lawful.rounds)
        → (other : List Round) → tried day (call c).lawful.rounds m ≡ some other → Lawful day (plan_words other (call c).lawful.lefts)
        → distance_of day (call c).lawful.rounds ≤ distance_of day other
    none_for_any s = ((settled_when_lem c).0 s).1.none

    -- "(D + 1) × n × (180 + 4d) trials suffice"
    pub growing_settles : (distance_of day (greedy_rounds day) + 1) * stops day * (180 + 4 * tips day) ≤ budget → (call c).settled ≡ true
    growing_settles h = budget_settles c (rw (four_added day) h)

-- two calls of `plan_growing`; the second finds the working buffer as long as the first
pub growing_twice : {day : List ℕ} {budget larger : ℕ} (first second : List ℕ) {work spare : ℕ}
    → Supposed day budget larger (length first) (length second) work → spare ≡ work → {firstAnswer firstNow second_answer secondNow : List ℕ}
    → firstAnswer ≡ growing_answer day budget (length first) work → firstNow ≡ growing_buffer day budget work first
    → second_answer ≡ growing_answer day larger (length second) spare → secondNow ≡ growing_buffer day larger spare second
    → DemandThree day growing_sets budget larger firstAnswer firstNow second_answer secondNow
growing_twice {day} first second {spare = spare} s w a b c d =
    let long : 5 * stops day ≤ spare = omega (arith, w, s.work_long) in
    both_called (called s.accepted s.first_long s.work_long a b) (called s.accepted s.second_long long c d) s.no_smaller
