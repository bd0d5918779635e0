pub mod Histories
pub mod Staying
pub mod Turns
pub mod Crossing
