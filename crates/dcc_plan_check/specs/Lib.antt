pub mod Structured
pub mod Checked
