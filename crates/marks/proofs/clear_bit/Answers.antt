-- `clear_bit` takes a set bit off, which is at most the word, by `bit_le`.
use mathlib.Core.Path.{refl}
use native.Mathlib.Omega.{arith}
use lib.Pow.{pow_pos}
use Rattle.laws.proofs.Bits.{bit_le, one_shl_bit}
use Rattle.marks.proofs.clear_bit.Goals as goal

pub overflow_sub-result : goal.overflow_sub-result
overflow_sub-result c = rw (one_shl_bit _ c.requires.0) (bit_le _ _ c.requires.1)

pub returns : goal.returns
returns c = rw (one_shl_bit _ c.requires.0)
    (refl, omega (arith, bit_le c.args.b c.args.w c.requires.1, pow_pos c.args.b))
