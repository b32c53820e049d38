-- What an answer means, exactly: demand 2 of the check, and same rounds. Assumes nothing.
use Rattle.std.specs.Prelude.{ℕ, ◌≡◌, true, List, [], ◌∷◌, ◌↔◌}
use Rattle.rules.specs.Answers.{given, is_given}
use Rattle.rules.specs.Fields.{IsAccepted}
use Rattle.rules.specs.Lawful.{Lawful, totals}
use Rattle.rules.specs.SameRounds.{is_visit, SameBy}

-- demand 2: a plan is called lawful exactly when it is; "distance and counts are those of document 01"
pub record DemandTwo (day plan answer : List ℕ) : Type 0 where
  pub exactly : (is_given answer ≡ true) ↔ (IsAccepted day × Lawful day plan)
  pub told : IsAccepted day → (l : Lawful day plan) → answer ≡ given (totals day l.rounds)

-- "two lawful plans whose vehicles, in order, visit the same stops in order": 1 exactly then, 0 exactly where two lawful plans do not
pub record SaysSame (day first second answer : List ℕ) : Type 0 where
  pub same : (answer ≡ given (1 ∷ [])) ↔ (IsAccepted day × SameBy is_visit day first second)
  pub different : (answer ≡ given (0 ∷ [])) ↔ (IsAccepted day × Lawful day first × Lawful day second × (SameBy is_visit day first second → ⊥))
