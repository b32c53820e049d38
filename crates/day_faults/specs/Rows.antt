-- When a row of legs is right at a glance. Assumes nothing.
use Rattle.std.specs.Prelude.{ℕ, ◌<◌, ◌≤◌, ◌≡◌, Bool, List, length, get_or}
use Rattle.std.specs.Int.{is_in_range}

-- a leg of at most 1,440 minutes: kind and minutes are one range of words
abbrev pub is_leg : ℕ → Bool
is_leg word = is_in_range 0x90000000 0x95A0FFFF word

-- each word of a row is such a leg
pub record InRange (row : List ℕ) : Type 0 where
  pub least : (k : ℕ) → k < length row → 0x90000000 ≤ get_or row k 0
  pub most : (k : ℕ) → k < length row → get_or row k 0 ≤ 0x95A0FFFF

-- besides, the leg from the row's own place to itself is 0
pub record RowRight (row : List ℕ) (own : ℕ) : Type 0 where
  pub legs : InRange row
  pub still : get_or row own 0 ≡ 0x90000000
