-- `plan_queries::vehicles::place_in` meets its contract: the first A word of the number begins the vehicle's words, or none does.
use Rattle.plan_queries.proofs.VehicleParts.{place_found, place_none}
use Rattle.plan_queries.proofs.vehicles.place_in.Goals as goal

pub returns-in-Some : goal.returns-in-Some
returns-in-Some c = place_found _ _ c.first_vehicle.ensures _ c.in-Some.is c.part_length.ensures.0

pub returns-in-None : goal.returns-in-None
returns-in-None c = place_none _ _ c.first_vehicle.ensures c.in-None.is
