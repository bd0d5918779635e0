pub mod Devices
pub mod Limits
pub mod InMemory
pub mod Standard
pub mod TracedSinks
pub mod working
