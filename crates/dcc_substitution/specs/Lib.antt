pub mod Substitute
pub mod Available
pub mod Substituted
pub mod Fresh
pub mod Laws
