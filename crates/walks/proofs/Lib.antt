pub mod CabLaws
pub mod HomeLaws
pub mod MidwayLaws
pub mod RewalkLaws
pub mod WalkLaws
pub mod Walking
