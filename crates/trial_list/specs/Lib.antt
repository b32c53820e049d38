pub mod Listing
pub mod Shapes
pub mod Survey
pub mod TrialRest
