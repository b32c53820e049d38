-- What a budgeted search comes to, said without a run. Assumes nothing.
use Rattle.std.specs.Prelude.{ℕ, ◌+◌, ◌≤◌, ◌<◌, ◌≡◌, true, false, length}
use Rattle.std.proofs.Math.Option.{Option, none}
use mathlib.Core.List.{List, Memᴰ}
use Rattle.rules.specs.Search.{Result, in_turn, Held}

module _ {P M : Type 0} (lists : P → List (List M)) (attempt : P → M → Option P) where
  -- what is known of the result of a search with a budget: its plan was held, after `at` trials; settled, its lists were made whole and no
  -- trial of them kept; not settled, the budget is gone and a trial of them was not made
  pub record Outcome (first : P) (budget : ℕ) (r : Result P) : Type 0 where
    pub at : ℕ
    pub held : Held lists attempt first r.plan at
    pub since : at ≤ r.trials
    pub within : r.trials ≤ budget
    pub whole : r.settled ≡ true → r.trials ≡ at + length (in_turn (lists r.plan))
    pub none_kept : r.settled ≡ true → (m : M) → Memᴰ m (in_turn (lists r.plan)) → attempt r.plan m ≡ none
    pub spent : r.settled ≡ false → r.trials ≡ budget
    pub missed : r.settled ≡ false → r.trials < at + length (in_turn (lists r.plan))
