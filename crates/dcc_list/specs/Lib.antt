pub mod Text
pub mod Listed
pub mod MarkViews
pub mod Laws
