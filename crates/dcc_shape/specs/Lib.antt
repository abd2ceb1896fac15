pub mod Procedures
pub mod Spots
pub mod Shape
pub mod Seen
pub mod Known
pub mod Asked
pub mod Carried
pub mod Carrying
