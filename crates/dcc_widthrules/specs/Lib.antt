pub mod Halves
pub mod Parts
