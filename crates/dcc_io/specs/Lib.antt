pub mod Count
pub mod Fetch
pub mod Memory
pub mod Told
