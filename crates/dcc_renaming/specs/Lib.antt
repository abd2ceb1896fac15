pub mod Alike
pub mod Changes
pub mod Faults
pub mod Renamed
