-- What working a plan over comes to, as the contracts of this crate say it. Assumes nothing.
use Rattle.std.specs.Prelude.{ℕ, ◌≡◌, List}
use Rattle.rules.specs.Answers.{given}
use Rattle.rules.specs.Plan.{plan_words}
use Rattle.rules.specs.Build.{greedy_lefts}
use Rattle.rules.specs.Search.{searched}
use Rattle.rules.specs.Planned.{planned, result_values}

-- the answer and the buffer of a plan that was worked over
pub record WorkedOver (day Ks : List ℕ) (budget : ℕ) (plan now answer : List ℕ) : Type 0 where
  pub values : answer ≡ given (result_values day (searched day Ks budget))
  pub buffer : now ≡ planned day (plan_words (searched day Ks budget).plan (greedy_lefts day)) plan
