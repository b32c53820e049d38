-- `Instance::write_day` meets its contract.
use Rattle.solomon_words.proofs.WayLaws.{front_begins, day_written}
use Rattle.solomon_words.proofs.Instance.write_day.Goals as goal

pub write_legs-requires-clause-begins : goal.write_legs-requires-clause-begins
write_legs-requires-clause-begins c = search front_begins

pub returns : goal.returns
returns c = search day_written
