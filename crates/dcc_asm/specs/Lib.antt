pub mod Fault
pub mod Form
pub mod Steps
pub mod Instructions
pub mod Laws
