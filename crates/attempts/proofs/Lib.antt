pub mod Gains
pub mod KeptLaws
pub mod ShorterLaws
pub mod SpanOfTrials
pub mod TryLaws
