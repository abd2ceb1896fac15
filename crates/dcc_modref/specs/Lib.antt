pub mod States
pub mod Losses
pub mod Tables
pub mod Flowing
pub mod Programs
