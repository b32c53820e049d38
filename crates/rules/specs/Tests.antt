-- What a test decides: a definition is a chain of such decisions, in the order of the paper's list. And which of the numbers that pass a test
-- has the least key. Assumes nothing.
use Rattle.std.specs.Prelude.{ℕ, zero, suc, Option, Some, None, Bool, not, ◌&&◌, ◌||◌, ltb, eqb, if◌then◌else◌}

-- two numbers differ
abbrev pub neb : ℕ → ℕ → Bool
neb a b = not (eqb a b)

-- k takes the place of the best so far, b: k passes, and b is none or has a greater key
unfoldable pub wins : (ok : ℕ → Bool) (key : ℕ → ℕ) (k b : ℕ) → Bool
wins ok key k b = ok k && (eqb b 0 || ltb (key k) (key b))

-- the better of k and the best so far, b
unfoldable pub better : (ok : ℕ → Bool) (key : ℕ → ℕ) (k b : ℕ) → ℕ
better ok key k b = if wins ok key k b then k else b

-- the number of 1..m that passes and has the least key, ties to the lower number; 0 means none, since stops and tips count from 1
unfoldable pub least : (ok : ℕ → Bool) (key : ℕ → ℕ) (m : ℕ) → ℕ
least ok key zero = 0
least ok key (suc m) = better ok key (suc m) (least ok key m)

-- a stop or a tip that may be none, as a number
abbrev pub number_or_none : Option ℕ → ℕ
number_or_none None = 0
number_or_none (Some number) = number
