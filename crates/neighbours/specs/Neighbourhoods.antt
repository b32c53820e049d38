-- What the neighbours of a stop are: the rule that `neighbours` keeps. Assumes nothing.
use Rattle.std.specs.Prelude.{ℕ, ◌≤◌, ◌<◌, ◌≡◌, true, ◌⊎◌, length}
use mathlib.Core.List.{List, map, Memᴰ}
use Rattle.rules.specs.Lists.{Every, Rising}
use Rattle.rules.specs.Fields.{stops}
use Rattle.rules.specs.Neighbours.{compatible, neighbour_key}

-- compatible stops, at most K, their keys rising; any other compatible stop is behind them all, and there is one
-- only where there are K
pub record AreNeighbours (day : List ℕ) (K i : ℕ) (js : List ℕ) : Type 0 where
  pub few : length js ≤ K
  pub known : Every (λ j. (1 ≤ j) × (j ≤ stops day)) js
  pub suited : Every (λ j. compatible day i j ≡ true) js
  pub in_order : Rising 0 (map (neighbour_key day i) js)
  pub nearest : (j : ℕ) → 1 ≤ j → j ≤ stops day → compatible day i j ≡ true
      → Memᴰ j js ⊎ ((length js ≡ K) × Every (λ k. neighbour_key day i k < neighbour_key day i j) js)
