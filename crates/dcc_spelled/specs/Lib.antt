pub mod Hex
pub mod Spelling
