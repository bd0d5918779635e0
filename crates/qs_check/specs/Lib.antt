pub mod Cells
pub mod Causes
pub mod Checking
