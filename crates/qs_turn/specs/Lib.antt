pub mod History
pub mod Protocol
pub mod Seats
pub mod Passes
pub mod Lending
pub mod working
