-- The stops of a vehicle's tasks. Assumes nothing.
use Prim.Native.Nat.{ℕ}
use mathlib.Core.Path.{◌≡◌, refl, ap}
use mathlib.Core.List.{List, [], ◌∷◌, ◌++◌}
use Rattle.rules.specs.Plan.{serve, empty, lunch, Round, stops_on}

-- the stops of two parts of a round
pub stops_append : (xs ys : Round) → stops_on (xs ++ ys) ≡ stops_on xs ++ stops_on ys
unfolding stops_on
stops_append [] ys = refl
stops_append (serve k ∷ xs) ys = ap (λ (ks : List ℕ). k ∷ ks) (stops_append xs ys)
stops_append (empty k ∷ xs) ys = stops_append xs ys
stops_append (lunch ∷ xs) ys = stops_append xs ys
