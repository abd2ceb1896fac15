pub mod Reading
pub use Rattle.dcc_machine.specs.Table
pub use Rattle.dcc_machine.specs.WellFormed
