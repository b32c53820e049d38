pub mod Bounds
pub mod GoingThrough
pub mod Reaching
