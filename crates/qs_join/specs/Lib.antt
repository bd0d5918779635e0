pub mod Heads
pub mod working
