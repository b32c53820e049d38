pub mod Cabs
pub mod Rewalks
