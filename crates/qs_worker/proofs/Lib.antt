pub mod Waiting
pub mod Turns
pub mod Saturating
pub mod Working
pub mod Crossing
