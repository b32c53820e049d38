-- `text::put::Text::put_hexadecimal` meets its contract: the digits so far stand behind the text.
use Rattle.std.proofs.Common.{◌≡◌, ◌++◌}
use Rattle.text.specs.Numbers.{hex_digits}
use Rattle.text.proofs.put.Text.put_hexadecimal.Given as goal

abbrev pub invariant-loop-i : goal.invariant-loop-i
invariant-loop-i g l = l.self ≡ l.initial.self ++ hex_digits l.word l.i
