pub mod Pieces
pub mod Gaps
pub mod Globals
pub mod Laws
pub mod Marks
