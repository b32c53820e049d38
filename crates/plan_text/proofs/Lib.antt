pub mod PlannedLaws
pub mod PrintedLaws
