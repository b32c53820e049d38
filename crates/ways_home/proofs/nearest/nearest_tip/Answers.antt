-- `ways_home::nearest::nearest_tip` meets its contract.
use mathlib.Core.Path.{ap, ◌∙◌}
use Rattle.rules.specs.Tests.{least}
use Rattle.ways_home.proofs.WayLaws.{chosen, nearest_of_all}
use Rattle.ways_home.proofs.nearest.nearest_tip.Goals as goal

pub returns : goal.returns
returns c =
    let best = c.nearest_of_first.ensures in
    let nearest = nearest_of_all c.args.day.now c.args.place c.args.minute _ (best.rule ∙ ap (least _ _) c.tips.ensures.count) in
    chosen _ _ _ (c.choice.ensures.number ∙ nearest) (rw (← nearest) best.carried.within) c.choice.ensures.some
