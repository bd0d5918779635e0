pub mod Crews
pub mod Saturation
pub mod working
