pub mod Doing
pub mod Ending
pub mod Standing
pub mod Stepped
