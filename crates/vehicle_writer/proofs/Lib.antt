pub mod EndLaws
pub mod GoingLaws
pub mod ReadyLaws
pub mod SettingOut
pub mod StateLaws
