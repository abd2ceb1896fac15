pub mod ZipLaws
pub mod MeaningLaws
pub mod StandLaws
pub mod AddsLaws
pub mod TidyLaws
