pub mod Before
pub mod Measure
pub mod Tables
