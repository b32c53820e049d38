-- A search for the least among marked numbers: word by word, and in each word from the lowest bit on.
-- Assumes nothing.
use Rattle.std.specs.Prelude.{ℕ, zero, suc, ◌+◌, ◌-◌, ◌≤◌, ◌<◌, min, ◌≡◌, Bool, eqb, if◌then◌else◌}
use Rattle.rules.specs.Tests.{better, least}
use Rattle.laws.specs.Bits.{bit}

-- the least of the numbers of 1..n that are below `at`
unfoldable pub least_below : (ok : ℕ → Bool) (key : ℕ → ℕ) (n at : ℕ) → ℕ
least_below ok key n at = least ok key (min n (at - 1))

-- the best of `before` and the numbers of a word's low m bits that are set, bit b being number first + b
unfoldable pub best_of : (ok : ℕ → Bool) (key : ℕ → ℕ) (word first before m : ℕ) → ℕ
best_of ok key word first before zero = before
best_of ok key word first before (suc m) =
    if eqb (bit word m) 1
    then better ok key (first + m) (best_of ok key word first before m)
    else best_of ok key word first before m

-- where the search in a word stands: rest has the word's bits from `at` on, and best is the best of those before
pub record WordWalk (ok : ℕ → Bool) (key : ℕ → ℕ) (word first before rest best : ℕ) : Type 0 where
  pub at : ℕ
  pub within : at ≤ 64
  pub below : (j : ℕ) → j < at → bit rest j ≡ 0
  pub same : (j : ℕ) → at ≤ j → bit rest j ≡ bit word j
  pub so_far : best ≡ best_of ok key word first before at
