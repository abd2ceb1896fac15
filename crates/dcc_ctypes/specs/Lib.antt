pub mod NameViews
pub use Rattle.dcc_c.specs.Typing
pub use Rattle.dcc_c.specs.Rules
pub use Rattle.dcc_c.specs.Offences
