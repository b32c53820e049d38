pub mod Carried
pub mod Exactly
pub mod Imported
pub mod Supposed
pub mod Ties
