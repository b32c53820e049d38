-- `plan_queries::second_answer` meets its contract: one law for each case of the check's answer.
use native.Mathlib.Omega.{arith}
use Rattle.plan_queries.proofs.PlanCalls.{rounds_same, rounds_differ, second_refused, plan_numbered, place_small}
use Rattle.plan_queries.proofs.second_answer.Goals as goal

pub returns-then-are_same-clause-answer : goal.returns-then-are_same-clause-answer
returns-then-are_same-clause-answer c = search rounds_same

pub overflow_add-result : goal.overflow_add-result
overflow_add-result c = omega (arith, place_small _ _ c.check.ensures c.in-Refused.is)

pub returns-else-are_same-clause-answer : goal.returns-else-are_same-clause-answer
returns-else-are_same-clause-answer c = search rounds_differ

pub returns-in-Refused-clause-answer : goal.returns-in-Refused-clause-answer
returns-in-Refused-clause-answer c = search second_refused

pub returns-in-Refused-clause-numbered : goal.returns-in-Refused-clause-numbered
returns-in-Refused-clause-numbered c = search plan_numbered
