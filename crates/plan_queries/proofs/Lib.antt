pub mod PlanCalls
pub mod RoundsCompared
pub mod VehicleParts
