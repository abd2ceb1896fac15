pub mod Lines
pub mod Trial
pub mod Laws
