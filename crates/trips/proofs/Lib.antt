pub mod Loading
pub mod DriveLaws
