pub mod Wanted
pub mod NextBy
