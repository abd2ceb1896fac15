pub mod Divisions
pub mod Walk
