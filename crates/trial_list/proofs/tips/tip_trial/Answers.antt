-- `trial_list::tips::tip_trial` meets its contract.
use mathlib.Core.Path.{refl, ◌∙◌}
use Rattle.trial_list.proofs.TipRests.{tells_removal, tells_other, tells_none}
use Rattle.trial_list.proofs.tips.tip_trial.Goals as goal

pub returns-in_default : goal.returns-in_default
returns-in_default c =
    let r = c.found.ensures in
    tells_removal _ _ _ _ c.in_default.is r.trial refl (r.next ∙ c.at_tip.ensures)

pub returns-then-x-tips : goal.returns-then-x-tips
returns-then-x-tips c =
    let r = c.found-then-x-tips.ensures in
    tells_other _ _ _ _ c.in-Some.is c.other_tip-x.ensures c.if-x-tips.true r.trial refl (r.next ∙ c.at_tip-then-x-tips.ensures)

pub returns-else-x-tips : goal.returns-else-x-tips
returns-else-x-tips c =
    let r = c.passed.ensures in
    tells_none _ _ _ _ c.in-Some.is c.other_tip-x.ensures c.if-x-tips.false r.trial (r.next ∙ c.next_task.ensures)
