pub mod Fault
pub mod Laws
pub mod Stripping
pub use Rattle.dcc_c.specs.Refusals
pub use Rattle.dcc_c.specs.Text
pub use Rattle.dcc_c.specs.Tree
pub use Rattle.dcc_c.specs.Views
