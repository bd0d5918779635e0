-- Working definitions: private functions and proofs need them, and no public contract cites one.
pub mod Codes
pub mod Marks
pub mod Numbers
