-- `text::put::Text::put_answer` meets its contract: one law for each case of the answer.
use Rattle.std.proofs.Common.{arith}
use Rattle.std.proofs.lemmas.Grind.{common_steps}
use Rattle.text.proofs.LineLaws.{plan_text, refusal_text}
use Rattle.text.proofs.put.Text.put_answer.Goals as goal

pub returns-in-Planned : goal.returns-in-Planned
returns-in-Planned g c = rw (c.in-Planned.is, plan_text) (grind (arith, common_steps))

pub returns-in-Refused : goal.returns-in-Refused
returns-in-Refused g c = rw (c.in-Refused.is, refusal_text) (grind (arith, common_steps))
