-- The bits of a number, and its lowest set bit.
-- Assumes nothing.
use Rattle.std.specs.Prelude.{ℕ, ◌/◌, ◌%◌, ◌^◌, ◌<◌, ◌≡◌}

-- bit b of x: 0 where it is clear, 1 where it is set
unfoldable pub bit : ℕ → ℕ → ℕ
bit x b = x / 2 ^ b % 2

-- of the k low bits of x, t is the lowest that is set
pub record LowestBit (k x t : ℕ) : Type 0 where
  pub within : t < k
  pub is_set : bit x t ≡ 1
  pub below : (j : ℕ) → j < t → bit x j ≡ 0
