pub mod ChoiceLaws
pub mod TaskLaws
