pub mod Accepted
pub mod DayWords
pub mod Fitting
pub mod ImportLaws
pub mod Importing
pub mod ReadBack
