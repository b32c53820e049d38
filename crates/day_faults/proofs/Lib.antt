pub mod Glance
pub mod Judged
