pub mod Naming
pub mod Additions
pub mod Tokens
pub mod Taking
pub mod Steps
pub mod Lists
pub mod Between
pub mod Known
