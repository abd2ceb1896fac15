pub mod Variables
pub mod Globals
pub mod Laws
pub mod Functions
pub mod FunctionLaws
pub mod Addresses
pub mod Views
