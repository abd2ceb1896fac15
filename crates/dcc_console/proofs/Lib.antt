pub mod KeyLaws
pub mod RanLaws
pub mod Runs
pub mod StringLaws
