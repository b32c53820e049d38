pub mod Indexes
pub mod Reading
pub mod Said
