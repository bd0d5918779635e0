pub mod Apart
pub mod Fitting
pub mod Order
pub mod working
