-- `text::put::Text::put_hexadecimal` meets its contract: the digits so far stand behind the text.
use Rattle.std.proofs.Common.{arith, length-append}
use Rattle.std.proofs.lemmas.Grind.{common_steps}
use Rattle.text.proofs.DigitLaws.{hex_none, hex_turn, hex_all, hex_length}
use Rattle.text.proofs.put.Text.put_hexadecimal.Goals as goal

pub loop-i-init : goal.loop-i-init
loop-i-init g c = grind (arith, common_steps, hex_none)

pub put-requires : goal.put-requires
put-requires g c = rw (c.loop-i.invariant, length-append, hex_length) (omega arith)

pub loop-i-preserved : goal.loop-i-preserved
loop-i-preserved g c = grind (arith, common_steps, hex_turn)

pub returns : goal.returns
returns g c = grind (arith, common_steps, hex_all)
