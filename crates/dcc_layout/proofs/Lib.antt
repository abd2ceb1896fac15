pub mod Casts
pub mod Scanning
pub mod Values
