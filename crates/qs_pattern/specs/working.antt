-- Working definitions: private functions and proofs need them, and no public contract cites one.
pub mod Patterns
pub mod Conditions
pub mod Named
pub mod Codes
