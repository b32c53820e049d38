-- A trial that may be made of a plan leaves it in shape, whether or not the plan is then lawful: the same stops, each once, known numbers and
-- room for its words. The day may be any list of words.
-- Assumes nothing.
use Prim.Native.Nat.{ℕ}
use mathlib.Core.Path.{◌≡◌, ◌∙◌}
use mathlib.Core.List.{List}
use mathlib.Core.Option.{some}
use Rattle.rules.specs.Plan.{Round}
use Rattle.rules.specs.Edits.{Trial}
use Rattle.rules.specs.Attempts.{tried}
use Rattle.trial_list.specs.Shapes.{Shaped, Valid}
use Rattle.candidates.proofs.Remade.{valid_suits, valid_renamed, tried_remade}

-- a trial that may be made keeps the shape
pub valid_shaped : (day : List ℕ) (rounds q : List Round) (m : Trial) → Shaped day rounds → Valid day rounds m → tried day rounds m ≡ some q → Shaped day q
valid_shaped day rounds q m s v e =
    let a = tried_remade day m 0 rounds q s.known s.rooms (valid_suits day rounds m v) e in
    record {
      known = a.known;
      rooms = a.rooms;
      busy = a.busy s.busy;
      once = λ k. a.same k ∙ valid_renamed day rounds m v k ∙ s.once k;
      count = a.count ∙ s.count;
      vehicles = a.vehicles ∙ s.vehicles;
    }
