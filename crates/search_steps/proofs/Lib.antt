pub mod BeginLaws
pub mod Promises
pub mod SearchSteps
pub mod SetLaws
pub mod TakeOverLaws
