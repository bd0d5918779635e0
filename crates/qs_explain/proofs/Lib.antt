pub mod Ranges
pub mod Laid
pub mod Grounded
pub mod Supporting
pub mod Existence
pub mod Marking
pub mod Numbers
pub mod Written
