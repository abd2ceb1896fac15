pub mod Freshness
pub mod Laws
pub mod Loaded
pub mod Quick
pub mod Strings
pub mod Scenes
pub mod Steps
