pub mod Heights
pub mod Moves
pub mod Form
pub mod Search
pub mod Removed
