pub mod Temporaries
pub mod Names
pub mod Classes
pub mod Walk
pub mod Split
