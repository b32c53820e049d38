pub mod PlanCalls
pub mod PlanDemands
