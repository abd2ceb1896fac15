pub mod ReadLaws
pub mod RoleLaws
pub mod HeldLaws
pub mod StmtLaws
pub mod FollowLaws
pub mod TidyLaws
pub mod StepLaws
