pub mod Stuck
pub use Rattle.dcc_c.specs.Tree
pub use Rattle.dcc_c.specs.Text
