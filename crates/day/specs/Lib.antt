pub mod Accepted
pub mod Layout
