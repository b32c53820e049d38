pub mod Forming
pub mod Naming
pub mod Stepping
