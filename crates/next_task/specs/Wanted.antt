-- Which stops are looked for, and by which key they are compared: step 3's or, where near is false, step 5's. It serves the contracts of
-- this crate's own functions. Assumes nothing.
use Rattle.std.specs.Prelude.{ℕ, ◌+◌, ◌<◌, ◌≤◌, ◌≡◌, Bool, true, false, not, ◌&&◌, List, ltb, leb}
use Rattle.rules.specs.Tests.{better, least}
use Rattle.rules.specs.Fields.{stops, stop_place, opening, closing}
use Rattle.rules.specs.Cargo.{over_limits}
use Rattle.rules.specs.Trip.{arrival}
use Rattle.rules.specs.Choice.{taking, takeable, waitable, near_key, open_key}
use Rattle.rules.specs.declared.walk.Cargo.{Cargo}
use Rattle.rules.specs.declared.walk.Trip.{Trip}
use Rattle.laws.specs.Bits.{LowestBit}
use Rattle.laws.specs.Marks.{both, up_to}
use Rattle.laws.specs.Walk.{best_of, WordWalk}
use Rattle.ways_home.specs.Bests.{BestBy}
use Rattle.ways_home.specs.declared.best.Best.{Best}

-- the step's conditions
abbrev pub wanted : (near : Bool) → List ℕ → Trip → Cargo → ℕ → Bool
wanted true day t c = takeable day t c
wanted false day t c = waitable day t c

-- those of them that are about the minute of arrival
unfoldable pub timely : (near : Bool) → List ℕ → Trip → ℕ → Bool
timely true day t k =
    leb (opening day (stop_place day k)) (arrival day t (stop_place day k)) && leb (arrival day t (stop_place day k)) (closing day (stop_place day k))
timely false day t k = ltb (arrival day t (stop_place day k)) (opening day (stop_place day k))

-- the step's key
abbrev pub key_of : (near : Bool) → List ℕ → Trip → ℕ → ℕ
key_of true day t = near_key day t
key_of false day t = open_key day

-- stop k or the best so far, of n stops
abbrev pub better_stop : (near : Bool) → List ℕ → Trip → Cargo → (n k best : ℕ) → ℕ
better_stop near day t c n k best = better (both (up_to n) (wanted near day t c)) (key_of near day t) k best

-- the best of the one before and the stops of one word of the marks
abbrev pub best_in_word : (near : Bool) → List ℕ → Trip → Cargo → (n word first before : ℕ) → ℕ
best_in_word near day t c n word first before = best_of (both (up_to n) (wanted near day t c)) (key_of near day t) word first before 64

-- the best of a set of stops, 0 for none
abbrev pub best_stop : (near : Bool) → List ℕ → Trip → Cargo → (ℕ → Bool) → ℕ
best_stop near day t c p = least (both p (wanted near day t c)) (key_of near day t) (stops day)

-- stop k of n is left to be asked for a way home: its key is less than `most`, it fits, and it is reached at the right time
unfoldable pub candidate : (near : Bool) → List ℕ → Trip → Cargo → (n most k : ℕ) → Bool
candidate near day t c n most k = up_to n k && (ltb (key_of near day t k) most && (not (over_limits day (taking day c k)) && timely near day t k))

pub record Candidate (near : Bool) (day : List ℕ) (t : Trip) (c : Cargo) (n most k : ℕ) : Type 0 where
  pub some : 0 < k
  pub within : k ≤ n
  pub less : key_of near day t k < most
  pub fits : over_limits day (taking day c k) ≡ false
  pub in_time : timely near day t k ≡ true

-- of the marks of a word, rest, those from the next candidate on, r: no stop that is passed is better than the best so far, whose key is most
pub record FromCandidate (near : Bool) (day : List ℕ) (t : Trip) (c : Cargo) (n most first rest r : ℕ) : Type 0 where
  pub fewer : r ≤ rest
  pub is_next : (b : ℕ) → LowestBit 64 r b → Candidate near day t c n most (first + b)
  pub passed : (word before : ℕ) (best : Best) → BestBy (key_of near day t) n best → best.key ≡ most
      → WordWalk (both (up_to n) (wanted near day t c)) (key_of near day t) word first before rest best.number
      → WordWalk (both (up_to n) (wanted near day t c)) (key_of near day t) word first before r best.number
