pub mod Reshaped
pub mod Simplified
