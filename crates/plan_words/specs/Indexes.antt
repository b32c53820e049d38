-- How far a word stands behind the first word of a kind. It serves the contracts of this crate's own functions. Assumes nothing.
use Rattle.std.specs.Prelude.{◌≡◌, ℕ, ◌+◌, ◌%◌}

-- the first word and r more, in 32 bits, are the word
abbrev pub IndexFrom : (first word r : ℕ) → Type 0
IndexFrom first word r = (r + first) % 0x100000000 ≡ word
