pub mod RowLaws
pub mod NeededLaws
pub mod WorkLaws
pub mod LiveLaws
pub mod StartLaws
pub mod DeadLaws
