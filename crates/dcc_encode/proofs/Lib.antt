pub mod Best
pub mod Covered
pub mod Orders
pub mod Sameness
