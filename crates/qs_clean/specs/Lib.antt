pub mod Cleaning
pub mod Marks
pub mod Cascades
pub mod Examples
pub mod Renaming
pub mod working
