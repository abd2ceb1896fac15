pub mod OneGraph
pub mod Replaced
pub mod Kinds
pub mod Following
pub mod Renaming
pub mod Renamed
pub mod Tidied
pub mod Laws
