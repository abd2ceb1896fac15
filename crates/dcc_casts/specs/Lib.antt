pub mod Casts
pub mod Laws
pub mod Views
