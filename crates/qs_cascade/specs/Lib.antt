pub mod ClosureEnds
pub mod Stages
