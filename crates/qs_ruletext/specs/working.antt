-- Working definitions: private functions and proofs need them, and no public contract cites one.
pub mod Texts
pub mod Written
pub mod Readers
pub mod Codes
