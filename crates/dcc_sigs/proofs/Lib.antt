pub mod Faults
pub mod Growing
pub mod NameLaws
pub mod Pieces
pub mod Reading
pub mod Reread
pub mod Telling
