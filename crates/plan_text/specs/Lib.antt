pub mod Planned
pub mod Printed
