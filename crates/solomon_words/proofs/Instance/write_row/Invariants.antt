-- `Instance::write_row` meets its contract: the words in front of the leg are written.
use Rattle.std.proofs.Common.{◌+◌}
use Rattle.rules.specs.Lists.{listed}
use Rattle.laws.specs.Buffer.{Wrote}
use Rattle.solomon_words.specs.Instances.{word_at, row_at}
use Rattle.solomon_words.proofs.Instance.write_row.Given as goal

abbrev pub invariant-loop-to : goal.invariant-loop-to
invariant-loop-to l = Wrote (listed (word_at l.self) (row_at l.self l.from + l.to)) l.initial.words l.words (row_at l.self l.from + l.to)
