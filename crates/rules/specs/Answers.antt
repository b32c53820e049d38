-- An answer as document 01 counts it: a list of numbers, headed by 0 where there is an answer and by the refusal's number where there is none.
-- Assumes nothing.
use Rattle.std.specs.Prelude.{ℕ, Bool, List, [], ◌∷◌, ◌++◌, eqb, take, get_or, replicate}

-- an answer that carries values
abbrev pub given : List ℕ → List ℕ
given values = 0 ∷ values

-- "each refusal returns its number and a place"
abbrev pub refused : ℕ → ℕ → List ℕ
refused number place = number ∷ place ∷ []

-- an answer was given, and no refusal
abbrev pub is_given : List ℕ → Bool
is_given answer = eqb (get_or answer 0 1) 0

-- an answer in six places: what is not named is 0
unfoldable pub in_six : List ℕ → List ℕ
in_six values = take 6 (values ++ replicate 6 0)
