-- `ways_home::nearest::nearest_of_first` meets its contract.
use Rattle.ways_home.proofs.BestLaws.{none_so_far}
use Rattle.ways_home.proofs.TipLaws.{tips_none, tips_next}
use Rattle.ways_home.proofs.nearest.nearest_of_first.Goals as goal

pub loop-k-init : goal.loop-k-init
loop-k-init c = (none_so_far _ _, tips_none _ _ _)

pub loop-k-preserved : goal.loop-k-preserved
loop-k-preserved c = (c.better_tip-best.ensures.carried, tips_next _ _ _ _ _ c.loop-k.invariant.1 c.better_tip-best.ensures.choice)
