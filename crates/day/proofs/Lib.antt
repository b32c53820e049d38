pub mod Answered
pub mod Forms
pub mod Ranges
pub mod Readers
pub mod WordFaults
