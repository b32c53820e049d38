pub mod BuiltPlans
pub mod FleetWords
pub mod LeftLaws
