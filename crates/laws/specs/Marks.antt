-- Sets of numbers, each a test on numbers, and how words of 64 bits hold one: number k is bit k % 64 of word k / 64.
-- Assumes nothing.
use Rattle.std.specs.Prelude.{ℕ, ◌+◌, ◌/◌, ◌%◌, ◌≤◌, ◌<◌, ◌≡◌, Bool, true, false, not, ◌&&◌, ◌||◌, List, [], ◌∷◌, get_or, eqb, ltb, leb}
use Rattle.std.specs.Int.Count.{ones}
use Rattle.laws.specs.Bits.{bit}

-- the set without k
unfoldable pub without : (ℕ → Bool) → ℕ → ℕ → Bool
without p k j = p j && not (eqb j k)

-- the set with k
unfoldable pub including : (ℕ → Bool) → ℕ → ℕ → Bool
including p k j = p j || eqb j k

-- the numbers of both sets
unfoldable pub both : (ℕ → Bool) → (ℕ → Bool) → ℕ → Bool
both p q k = p k && q k

-- the numbers 1..n
unfoldable pub up_to : ℕ → ℕ → Bool
up_to n j = ltb 0 j && leb j n

-- the lowest number of the set, and `end` where it has none below that
pub record Lowest (p : ℕ → Bool) (end r : ℕ) : Type 0 where
  pub within : r ≤ end
  pub below : (j : ℕ) → j < r → p j ≡ false
  pub is_marked : r < end → p r ≡ true

-- number k is marked in the words
unfoldable pub marked : List ℕ → ℕ → Bool
marked ws k = eqb (bit (get_or ws (k / 64) 0) (k % 64)) 1

-- how many are marked: the ones of all words
unfoldable pub ones_of : List ℕ → ℕ
ones_of [] = 0
ones_of (w ∷ ws) = ones w + ones_of ws

-- vs are the words ws with the mark of k taken off
pub record Unmarked (ws : List ℕ) (k : ℕ) (vs : List ℕ) : Type 0 where
  pub marks : marked vs ≡ without (marked ws) k
  pub count : ones_of vs + 1 ≡ ones_of ws

-- vs are the words ws with k marked, which was not
pub record Marked (ws : List ℕ) (k : ℕ) (vs : List ℕ) : Type 0 where
  pub marks : marked vs ≡ including (marked ws) k
  pub count : ones_of vs ≡ ones_of ws + 1
