-- `plan_text::put_day` meets its contract.
use Rattle.std.proofs.Common.{arith, ◌∙◌}
use Rattle.std.proofs.lemmas.Grind.{common_steps}
use Rattle.plan_text.specs.Planned.{empty_plan}
use Rattle.plan_text.proofs.PlannedLaws.{day_within, day_told}
use Rattle.plan_text.proofs.put_day.Goals as goal

pub put_answer-requires : goal.put_answer-requires
unfolding empty_plan
put_answer-requires c = (omega arith, (grind (arith, common_steps), day_within _ c.plan-answer.ensures.answer _ c.plan-answer.auto.plan))

pub returns : goal.returns
unfolding empty_plan
returns c = c.put_answer.ensures ∙ rw c.requires (day_told _ c.plan-answer.ensures.answer c.plan-answer.ensures.buffer)
