pub mod Reading
pub mod Words
pub mod Roles
pub mod Rewriting
