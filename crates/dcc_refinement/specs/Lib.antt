pub mod Steps
pub mod Refinement
pub mod Laws
