pub mod DigitLaws
pub mod LineLaws
