pub mod First
pub mod Start
pub mod Needed
pub mod Dead
