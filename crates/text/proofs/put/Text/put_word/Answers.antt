-- `text::put::Text::put_word` meets its contract.
use Rattle.std.proofs.Common.{arith, length-append}
use Rattle.text.proofs.DigitLaws.{hexadecimal_length}
use Rattle.text.proofs.put.Text.put_word.Goals as goal

pub put-requires : goal.put-requires
put-requires g c = rw (c.put_hexadecimal.ensures, length-append, hexadecimal_length) (omega arith)
