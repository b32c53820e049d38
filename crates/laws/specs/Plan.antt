-- A vehicle of a plan, by where its words stand. Assumes nothing.
use Rattle.std.specs.Prelude.{ℕ, ◌≡◌, List, ◌∷◌, ◌++◌, map, drop}
use Rattle.rules.specs.Lists.{Every}
use Rattle.rules.specs.PlanWords.{back_word}
use Rattle.rules.specs.Plan.{Round, task_word, Known}

-- a vehicle's tasks stand in the plan from a place on, then E, then other words
pub record RoundAt (day plan : List ℕ) (from : ℕ) (tasks : Round) (rest : List ℕ) : Type 0 where
  pub text : drop from plan ≡ map task_word tasks ++ (back_word ∷ rest)
  pub known : Every (Known day) tasks
