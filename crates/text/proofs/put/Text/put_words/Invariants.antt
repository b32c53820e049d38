-- `text::put::Text::put_words` meets its contract: the lines so far stand behind the text.
use Rattle.std.proofs.Common.{◌≡◌, ◌++◌, take}
use Rattle.text.specs.Lines.{word_lines}
use Rattle.text.proofs.put.Text.put_words.Given as goal

abbrev pub invariant-loop-word : goal.invariant-loop-word
invariant-loop-word g l = l.self ≡ l.initial.self ++ word_lines (take l.word-index l.words)
