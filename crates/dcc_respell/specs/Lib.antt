pub mod Respelled
pub mod Writing
pub mod Laws
