-- Working definitions: private functions and proofs need them, and no public contract cites one.
pub mod Ends
pub mod Cascading
pub mod Phrasing
