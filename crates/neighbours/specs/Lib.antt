pub mod Neighbourhoods
pub mod Tables
