pub mod Console
pub mod Counts
pub mod Key
pub mod Laws
pub mod Ran
pub mod WithConsole
pub mod Steps
pub mod Strings
