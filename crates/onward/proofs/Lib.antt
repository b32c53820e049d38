pub mod FillLaws
pub mod FirstLaws
pub mod OnwardLaws
