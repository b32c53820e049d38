-- What demand 3 supposes of calls that plan with trials: "an accepted day with n stops", "any two trial budgets, the second no smaller", "in
-- buffers long enough, whatever they held". "K from 1 to 50" is supposed beside it where there is one K. Assumes nothing.
use Rattle.std.specs.Prelude.{ℕ, ◌*◌, ◌≤◌, ◌≡◌, List, length}
use Rattle.rules.specs.Fields.{stops, IsAccepted}
use Rattle.rules.specs.Planned.{search_answer, search_buffer}

-- two calls, by how many words are in the two plan buffers and in the working buffer
pub record Supposed (day : List ℕ) (budget larger first second work : ℕ) : Type 0 where
  pub accepted : IsAccepted day
  -- "the second no smaller"
  pub no_smaller : budget ≤ larger
  -- "in buffers long enough": 5n words in each
  pub first_long : 5 * stops day ≤ first
  pub second_long : 5 * stops day ≤ second
  pub work_long : 5 * stops day ≤ work

-- one such call, with any list of K: it answers, and leaves in the plan buffer, what the rules say
pub record Called (day Ks : List ℕ) (budget : ℕ) (plan : List ℕ) (work : ℕ) (answer buffer : List ℕ) : Type 0 where
  pub accepted : IsAccepted day
  pub plan_long : 5 * stops day ≤ length plan
  pub work_long : 5 * stops day ≤ work
  pub answers : answer ≡ search_answer day Ks budget (length plan) work
  pub leaves : buffer ≡ search_buffer day Ks budget work plan
