pub mod Firings
pub mod Adding
pub mod Work
pub mod Neighbours
pub mod working
