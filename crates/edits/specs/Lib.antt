pub mod EditWords
pub mod Kept
