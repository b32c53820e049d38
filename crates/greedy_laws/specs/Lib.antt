pub mod Reached
pub mod Rooms
pub mod States
