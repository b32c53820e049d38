pub mod BestLaws
pub mod HomeLaws
pub mod TipLaws
pub mod WayLaws
