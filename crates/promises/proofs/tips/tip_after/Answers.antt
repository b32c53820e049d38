-- `promises::tips::tip_after` meets its contract.
use Rattle.day.proofs.Ranges.{accepted_ranges}
use Rattle.promises.proofs.NearestTip.{after_first_tips}
use Rattle.promises.proofs.tips.tip_after.Goals as goal

pub new-requires : goal.new-requires
new-requires c = (accepted_ranges _ c.requires.0).long

pub returns : goal.returns
returns c = rw (← c.new.ensures) (search after_first_tips)
