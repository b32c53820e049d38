-- `trial_list::tips::TipPlace::look` meets its contract.
use borrow.Author.Rules.{rules}
use Prim.Native.Nat.{◌<◌}
use mathlib.Core.Path.{refl, ◌∙◌}
use Rattle.plan_words.proofs.WordForms.{word_is}
use Rattle.trial_list.proofs.WordsRead.{tip_small}
use Rattle.trial_list.proofs.TipRests.{vehicle_ends, idle_passes, tip_steps}
use Rattle.trial_list.proofs.tips.TipPlacePlace.look.Goals as goal

pub returns-then-at-end : goal.returns-then-at-end
returns-then-at-end c =
    let r = c.passed.ensures in
    vehicle_ends _ _ _ c.requires _ _ refl refl c.if-at-end.true r.trial (r.next ∙ c.next_vehicle.ensures)

pub tip_trial-requires : goal.tip_trial-requires
tip_trial-requires c =
    let small : c.in-Some-Tip.tip < 256 = tip_small _ _ (word_is _ c.in-Some-Tip.ensures c.in-Some-Tip.field-0-is) in
    search rules

pub returns-in-Some-Tip : goal.returns-in-Some-Tip
returns-in-Some-Tip c =
    tip_steps _ _ _ c.requires _ _ refl refl _ c.if-at-end.false refl _ (word_is _ c.in-Some-Tip.ensures c.in-Some-Tip.field-0-is) c.tip_trial.ensures

pub returns-in_default : goal.returns-in_default
returns-in_default c =
    let r = c.passed-in_default.ensures in
    idle_passes _ _ _ c.requires _ _ refl refl _ c.if-at-end.false refl (λ y e. search rules) r.trial (r.next ∙ c.next_task.ensures)
