-- `text::put::Text::put_words` meets its contract: the lines so far stand behind the text.
use Rattle.std.proofs.Common.{arith, length-append}
use Rattle.std.proofs.lemmas.Grind.{common_steps}
use Rattle.text.proofs.DigitLaws.{lines_none, lines_turn, lines_length}
use Rattle.text.proofs.put.Text.put_words.Goals as goal

pub loop-word-init : goal.loop-word-init
loop-word-init g c = grind (arith, common_steps, lines_none)

pub put_word-requires : goal.put_word-requires
put_word-requires g c = rw (c.loop-word.invariant, length-append, lines_length) (grind (arith, common_steps))

pub loop-word-preserved : goal.loop-word-preserved
loop-word-preserved g c = grind (arith, common_steps, lines_turn)
