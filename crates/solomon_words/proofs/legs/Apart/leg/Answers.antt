-- `Apart::leg` meets its contract.
use Rattle.solomon_words.proofs.LegLaws.{leg_is}
use Rattle.solomon_words.proofs.legs.Apart.leg.Goals as goal

pub returns : goal.returns
returns c = search leg_is
