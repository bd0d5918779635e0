-- Working definitions: private functions and proofs need them, and no public contract cites one.
pub mod Counts
pub mod Tasks
pub mod Remaining
pub mod Bindings
