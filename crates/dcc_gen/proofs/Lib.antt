pub mod CodeLaws
pub mod DrawLaws
pub mod FileLaws
pub mod OneFile
