pub mod Simpler
pub mod Forms
pub mod Rules
pub mod Views
pub mod Laws
