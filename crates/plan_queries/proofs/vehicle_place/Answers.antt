-- `plan_queries::vehicle_place` meets its contract: one law for each case of the check's answer.
use Rattle.plan_queries.proofs.PlanCalls.{place_asked, place_refused}
use Rattle.plan_queries.proofs.vehicle_place.Goals as goal

pub returns-in-Lawful : goal.returns-in-Lawful
returns-in-Lawful c = search place_asked

pub returns-in-Refused : goal.returns-in-Refused
returns-in-Refused c = search place_refused
