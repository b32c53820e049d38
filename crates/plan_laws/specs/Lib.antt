pub mod Vehicles
