pub mod Numbers
pub mod Passing
pub mod Places
pub mod Taken
pub mod Words
