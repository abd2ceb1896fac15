-- With more calls than enough the same is read.
pub mod ToRead
pub mod Parameters
