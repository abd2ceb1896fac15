pub mod Placed
pub mod Comparison
pub mod Compared
pub mod Side
pub mod Agreed
pub mod Lines
pub mod Laws
