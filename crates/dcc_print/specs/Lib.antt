pub mod Blocks
pub mod Unbroken
pub use Rattle.dcc_c.specs.Numbered
pub use Rattle.dcc_c.specs.Views
pub use Rattle.dcc_c.specs.Written
pub use Rattle.dcc_io.specs.Count
pub use Rattle.dcc_io.specs.Told
