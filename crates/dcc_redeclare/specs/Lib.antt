pub mod Redeclared
pub mod Laws
