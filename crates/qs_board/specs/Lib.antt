pub mod History
pub mod Calls
pub mod Seats
pub mod working
