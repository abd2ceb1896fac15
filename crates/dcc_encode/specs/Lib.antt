pub mod Encoding
pub mod EncodingViews
pub mod Shapes
pub mod Laws
