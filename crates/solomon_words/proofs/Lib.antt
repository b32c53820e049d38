pub mod FrontLaws
pub mod LegLaws
pub mod TableLaws
pub mod WayLaws
