pub mod Usage
pub mod Defined
pub mod Answers
pub mod Calls
pub mod working
