pub mod Signature
pub mod Fault
pub mod Laws
pub mod Reading
pub mod Steps
pub mod Recognised
