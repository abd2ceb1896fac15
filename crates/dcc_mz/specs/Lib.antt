pub mod Fault
pub mod Header
pub mod Laws
pub use Rattle.dcc_machine.specs.MzImage
