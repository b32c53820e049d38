pub mod Trips
pub mod Drives
