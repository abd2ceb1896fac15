pub mod Cache
pub mod Core
pub mod Ending
pub mod Form
pub mod Stepped
