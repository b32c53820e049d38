pub mod ChangeLaws
pub mod EditLaws
pub mod EditSuits
pub mod SmallEdits
