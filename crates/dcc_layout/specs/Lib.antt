pub mod Registers
pub mod Prelude
pub mod Refusal
pub mod Laws
pub use Rattle.dcc_prog.specs.Construct
pub use Rattle.dcc_prog.specs.Layout
pub use Rattle.dcc_machine.specs.MzImage
