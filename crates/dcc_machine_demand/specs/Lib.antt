pub mod Bodies
pub mod Holders
pub mod Moves
pub mod Values
pub mod Instance
pub mod Asked
pub mod Refused
pub mod Laws
