pub mod Fleet
pub mod Lefts
