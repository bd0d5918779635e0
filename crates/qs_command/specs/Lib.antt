pub mod Limits
pub mod Words
pub mod Statuses
pub mod working
