pub mod Graphs
pub mod Validity
pub mod Chains
pub mod Limits
pub mod Kept
pub mod working
