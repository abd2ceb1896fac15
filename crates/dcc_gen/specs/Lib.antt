pub mod Code
pub mod Draws
pub mod File
pub mod Laws
pub mod Pieces
pub mod Program
