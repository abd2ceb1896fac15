pub mod Held
pub mod Settled
pub mod Holders
pub mod Choice
pub mod Laws
