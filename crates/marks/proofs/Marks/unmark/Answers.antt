-- `Marks::unmark` takes the mark of its number off, by `unmark_words`; the set bit is at most the word, by `bit_le`.
use native.Mathlib.Omega.{arith}
use mir.Syntax.{w64}
use Rattle.laws.proofs.Arrays.{array_length}
use Rattle.laws.proofs.Bits.{bit_le, one_shl}
use Rattle.laws.proofs.Marks.{marked_within, marked_bit, unmark_words}
use Rattle.marks.proofs.Marks.unmark.Goals as goal

pub bounds-self-k : goal.bounds-self-k
bounds-self-k c = omega (arith, marked_within _ _ c.requires, array_length w64 4 c.args.self.words _ c.well_formed.0.1.1.0)

pub overflow_sub-self : goal.overflow_sub-self
overflow_sub-self c = rw one_shl (bit_le _ _ (marked_bit _ _ c.requires))

pub bounds-self-k-2 : goal.bounds-self-k-2
bounds-self-k-2 c = omega (arith, marked_within _ _ c.requires, array_length w64 4 c.args.self.words _ c.well_formed.0.1.1.0)

pub returns : goal.returns
returns c = rw one_shl (unmark_words _ _ c.requires)
