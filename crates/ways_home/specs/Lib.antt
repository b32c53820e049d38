pub mod Bests
