pub mod CountLemmas
pub mod ListLemmas
pub mod MemoryLemmas
pub mod ToldLemmas
