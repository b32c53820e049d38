pub mod Bits
pub mod Buffer
pub mod Least
pub mod Lists
pub mod Marks
pub mod Plan
pub mod Walk
