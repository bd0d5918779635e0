pub mod Growth
pub mod Core
pub mod Runs
pub mod Keeps
pub mod Answers
pub mod Machines
pub mod working
