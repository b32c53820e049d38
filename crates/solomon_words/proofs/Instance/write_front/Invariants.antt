-- `Instance::write_front` meets its contract: the first i words stand at the front.
use Rattle.rules.specs.Lists.{listed}
use Rattle.laws.specs.Buffer.{Wrote}
use Rattle.solomon_words.specs.Instances.{word_at}
use Rattle.solomon_words.proofs.Instance.write_front.Given as goal

abbrev pub invariant-loop-i : goal.invariant-loop-i
invariant-loop-i l = Wrote (listed (word_at l.self) l.i) l.initial.word-items l.word-items l.i
