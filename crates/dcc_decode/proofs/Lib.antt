pub mod Forms
pub mod LowerRows
pub mod Rows
pub mod LaterRows
pub mod ReadLaws
pub mod Decoding
