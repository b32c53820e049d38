-- The table of all neighbours: a row of 50 places for each stop, and the keys that a row is chosen by. It serves the contracts of the
-- functions that make trials. Assumes nothing.
use Rattle.std.specs.Prelude.{ℕ, zero, suc, ◌+◌, ◌*◌, ◌%◌, ◌≤◌, ◌<◌, ◌≡◌, List, ltb, eqb, min, length, get_or, fold, if◌then◌else◌}
use Rattle.rules.specs.Fields.{stops}
use Rattle.rules.specs.Neighbours.{compatible, neighbour_key, neighbours}

-- the row of stop i stands at 50 * i, with 0 behind its last neighbour
pub record TableOf (day : List ℕ) (K : ℕ) (table : List ℕ) : Type 0 where
  pub size : length table ≡ 12050
  pub rows : (i r : ℕ) → 1 ≤ i → i ≤ stops day → r < K → get_or table (50 * i + r) 0 ≡ get_or (neighbours day K i) r 0

-- the rows of the stops before one
pub record RowsTo (day : List ℕ) (K : ℕ) (stop : ℕ) (table : List ℕ) : Type 0 where
  pub size : length table ≡ 12050
  pub rows : (i r : ℕ) → 1 ≤ i → i < stop → r < K → get_or table (50 * i + r) 0 ≡ get_or (neighbours day K i) r 0

-- the row of stop i, of K places
pub record RowOf (day : List ℕ) (i K : ℕ) (row : List ℕ) : Type 0 where
  pub size : length row ≡ K
  pub each : (r : ℕ) → r < K → get_or row r 0 ≡ get_or (neighbours day K i) r 0

-- above every key
abbrev pub no_key : ℕ
no_key = 4294967295

-- the key of j as a neighbour of i, where it is one
unfoldable pub key_or_none : List ℕ → ℕ → ℕ → ℕ
key_or_none day i j = if compatible day i j then neighbour_key day i j else no_key

-- the keys of the first n stops stand in the order of their numbers
pub record KeysTo (day : List ℕ) (i n : ℕ) (keys : List ℕ) : Type 0 where
  pub size : length keys ≡ stops day
  pub each : (j : ℕ) → j < n → get_or keys j 0 ≡ key_or_none day i (suc j)

-- and those of all stops
abbrev pub KeysOf : (day : List ℕ) (i : ℕ) (keys : List ℕ) → Type 0
KeysOf day i keys = KeysTo day i (stops day) keys

-- a key that is above the last one; none in place of another
unfoldable pub key_above : (last key : ℕ) → ℕ
key_above last key = if ltb last key then key else no_key

-- the lesser of the best so far and a key that is above the last one
unfoldable pub best_above : (last best key : ℕ) → ℕ
best_above last best key = if ltb last key then min best key else best

-- the least key above the last one
unfoldable pub least_above : (last : ℕ) (keys : List ℕ) → ℕ
least_above last keys = fold (best_above last) no_key keys

-- the key after the last one, so many times
unfoldable pub key_after : (keys : List ℕ) (last : ℕ) → ℕ → ℕ
key_after keys last zero = last
key_after keys last (suc r) = least_above (key_after keys last r) keys

-- the stop of a key, 0 for none
unfoldable pub stop_of_key : ℕ → ℕ
stop_of_key key = if eqb key no_key then 0 else key % 256

-- the stops of the first keys, at the first so many places of a row
pub record RowBy (keys : List ℕ) (r : ℕ) (row : List ℕ) : Type 0 where
  pub each : (s : ℕ) → s < r → get_or row s 0 ≡ stop_of_key (key_after keys 0 (suc s))
