-- `lowest_bit` counts the zeros below the lowest set bit, by `trailing_lowest`.
use Rattle.laws.proofs.Bits.{trailing_lowest}
use Rattle.marks.proofs.lowest_bit.Goals as goal

pub returns : goal.returns
returns c = search trailing_lowest
