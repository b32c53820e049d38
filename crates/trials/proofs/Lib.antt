pub mod ImproveLaws
pub mod TrialSteps
