-- `Marks::mark` marks its number, by `mark_words`; the word with the bit set still fits in 64 bits, by `bit_add_lt`.
use Prim.Native.Nat.{◌%◌}
use native.Mathlib.Omega.{arith}
use mir.Syntax.{w64}
use Rattle.laws.proofs.Arrays.{array_length, array_fits}
use Rattle.laws.proofs.Bits.{bit_add_lt, one_shl}
use Rattle.laws.proofs.Marks.{unmarked_bit, mark_words}
use Rattle.marks.proofs.Marks.mark.Goals as goal

pub overflow_add-self : goal.overflow_add-self
overflow_add-self c = let fits-now = array_fits w64 4 c.args.self.words _ c.well_formed.0.1.1.0 _ in
    let clear = unmarked_bit _ _ c.requires.unmarked in
    rw one_shl (record { fits = bit_add_lt (c.args.k % 64) 64 _ (omega arith) fits-now clear })

pub returns : goal.returns
returns c = let four = array_length w64 4 c.args.self.words _ c.well_formed.0.1.1.0 in
    rw one_shl (mark_words _ _ (omega arith) c.requires.unmarked)
