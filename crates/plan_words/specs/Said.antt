-- What plan words say, by kind and number, in place of the words themselves: of a plan, and of a buffer while it is written. Whatever else a
-- word carries does not show here. It serves the contracts of the functions that write plans. Assumes nothing.
use Rattle.std.specs.Prelude.{◌≡◌, ℕ, suc, List, [], ◌∷◌, ◌++◌, map}
use Rattle.rules.specs.PlanWords.{Word, vehicle, back, left, read_plan}
use Rattle.rules.specs.Plan.{Round, word_for}
use Rattle.laws.specs.Buffer.{Wrote}

-- vehicles counted on from a number, then the stops left out
unfoldable pub says : ℕ → List Round → List ℕ → List Word
says from [] lefts = map left lefts
says from (tasks ∷ rounds) lefts = vehicle (suc from) ∷ (map word_for tasks ++ (back ∷ says (suc from) rounds lefts))

-- one vehicle on its way, with the tasks written so far, and once it is back
abbrev pub tasks_said : ℕ → Round → List Word
tasks_said number tasks = vehicle number ∷ map word_for tasks

abbrev pub round_said : ℕ → Round → List Word
round_said number tasks = vehicle number ∷ (map word_for tasks ++ (back ∷ []))

-- the buffer, which was p, is now part: n words stand at its front, and this is what they say
pub record Said (what : List Word) (p part : List ℕ) (n : ℕ) : Type 0 where
  pub words : List ℕ
  pub text : Wrote words p part n
  pub reads : read_plan words ≡ what
