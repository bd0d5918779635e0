pub mod Support
pub mod Texts
pub mod working
