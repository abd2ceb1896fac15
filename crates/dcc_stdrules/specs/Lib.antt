pub mod Rewriting
pub mod Constants
pub mod Sums
