-- `plan_queries::same_rounds` meets its contract: one law for each case of the check's answer.
use Rattle.plan_queries.proofs.PlanCalls.{first_lawful, first_refused, plan_numbered}
use Rattle.plan_queries.proofs.same_rounds.Goals as goal

pub returns-in-Lawful-clause-answer : goal.returns-in-Lawful-clause-answer
returns-in-Lawful-clause-answer c = search first_lawful

pub returns-in-Refused-clause-answer : goal.returns-in-Refused-clause-answer
returns-in-Refused-clause-answer c = search first_refused

pub returns-in-Refused-clause-numbered : goal.returns-in-Refused-clause-numbered
returns-in-Refused-clause-numbered c = search plan_numbered
