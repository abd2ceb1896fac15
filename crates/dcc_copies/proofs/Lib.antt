pub mod HeldLaws
pub mod FollowLaws
pub mod FormLaws
pub mod TreeLaws
pub mod SettledLaws
pub mod HolderLaws
pub mod LoopLaws
pub mod ChoiceLaws
