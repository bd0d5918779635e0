-- Working definitions: private functions and proofs need them, and no public contract cites one.
pub mod Codes
pub mod Same
pub mod CanonCounts
pub mod CanonTables
pub mod CanonNumbers
pub mod CanonChains
pub mod CanonSteps
