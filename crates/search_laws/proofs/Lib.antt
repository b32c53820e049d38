pub mod KeptTrials
pub mod NoneShorter
pub mod Searching
