-- `trial_list::survey::survey` meets its contract.
use borrow.Author.Rules.{rules}
use mathlib.Core.Path.{refl}
use Rattle.trial_list.proofs.SurveyLaws.{all_zeros, surveys_start, surveys_round, surveys_less, surveys_next, surveys_end}
use Rattle.trial_list.proofs.survey.survey.Goals as goal

pub loop-starts-init : goal.loop-starts-init
loop-starts-init c =
    let t = c.requires.tables in
    surveys_start _ _ _ _ c.requires.plan.1 t.0 t.1 t.2 (all_zeros _ (c.fill.ensures.after (λ y e. search rules))) c.fill.ensures.len

pub survey_vehicle-driven-requires : goal.survey_vehicle-driven-requires
survey_vehicle-driven-requires c =
    let p = c.requires.plan in
    (p.0, surveys_round p.1 c.loop-starts.invariant c.is_vehicle.ensures c.loop-starts-test.true, search rules, search rules)

pub loop-starts-smaller : goal.loop-starts-smaller
loop-starts-smaller c = search surveys_less

pub loop-starts-preserved : goal.loop-starts-preserved
loop-starts-preserved c =
    let v = c.survey_vehicle-driven in
    surveys_next c.requires.plan.1 c.loop-starts.invariant c.is_vehicle.ensures c.loop-starts-test.true refl v.ensures v.auto.vehicles

pub returns : goal.returns
returns c = search surveys_end
