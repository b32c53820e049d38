-- What a test of bytes tells, and a number as the code holds it. Assumes nothing.
use Rattle.std.specs.Prelude.{ℕ, min, Bool, List, ◌≡◌}
use Rattle.rules.specs.TextFields.{number_at}

-- what a call answers of a byte is whether the byte is of the kind
abbrev pub Tests : (ℕ → Bool → Type 0) → (ℕ → Bool) → Type 0
Tests answers kind = (b : ℕ) (answer : Bool) → answers b answer → answer ≡ kind b

-- a field's number, held at 1,000,000: every limit is lower
unfoldable pub held_at : List ℕ → ℕ → ℕ
held_at text at = min 1000000 (number_at text at)
