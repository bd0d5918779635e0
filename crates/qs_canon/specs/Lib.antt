pub mod Rounds
pub mod Closures
pub mod Carrying
pub mod Numbering
pub mod Merging
pub mod RunExamples
pub mod working
