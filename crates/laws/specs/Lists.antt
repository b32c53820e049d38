-- Numbers collected one by one, each new when its turn comes. Assumes nothing.
use Rattle.std.specs.Prelude.{ℕ, ◌≡◌, false, List, [], ◌∷◌}
use Rattle.rules.specs.Lists.{mem}

-- numbers collected one by one, the latest in front
unfoldable pub collect : List ℕ → List ℕ → List ℕ
collect met [] = met
collect met (k ∷ ks) = collect (k ∷ met) ks

-- each number is new when its turn comes
unfoldable pub Fresh : List ℕ → List ℕ → Type 0
Fresh met [] = Unit {0}
Fresh met (k ∷ ks) = (mem k met ≡ false) × Fresh (k ∷ met) ks
