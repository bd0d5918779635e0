pub mod Lists
pub mod Names
pub mod Trees
pub mod Sameness
pub mod Cells
pub mod Splits
pub mod Text
pub mod working
