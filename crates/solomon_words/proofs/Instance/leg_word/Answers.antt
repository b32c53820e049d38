-- `Instance::leg_word` meets its contract.
use Rattle.solomon_words.proofs.WayLaws.{leg_copied}
use Rattle.solomon_words.proofs.Instance.leg_word.Goals as goal

pub returns-then-to-from : goal.returns-then-to-from
returns-then-to-from c = search leg_copied
