-- `Instance::write_legs` meets its contract: the rows so far are written.
use Rattle.rules.specs.Lists.{listed}
use Rattle.laws.specs.Buffer.{Wrote}
use Rattle.solomon_words.specs.Instances.{word_at, row_at}
use Rattle.solomon_words.proofs.Instance.write_legs.Given as goal

abbrev pub invariant-loop-from : goal.invariant-loop-from
invariant-loop-from l = Wrote (listed (word_at l.self) (row_at l.self l.from)) l.initial.words l.words (row_at l.self l.from)
