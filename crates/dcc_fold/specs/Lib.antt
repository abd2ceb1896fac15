pub mod Chain
pub mod Joinable
pub mod Alone
pub mod Known
pub mod Carried
pub mod Found
