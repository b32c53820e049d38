pub mod Earliest
pub mod FieldFaults
pub mod Judged
pub mod LineLaws
