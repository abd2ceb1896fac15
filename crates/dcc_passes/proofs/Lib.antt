pub mod RenamedLaws
pub mod RenamingLaws
pub mod WrittenLaws
pub mod FollowLaws
pub mod KindLaws
pub mod OneGraphLaws
pub mod ReplacedLaws
pub mod TidiedLaws
