-- Working definitions: private functions and proofs need them, and no public contract cites one.
pub mod Links
pub mod Steps
pub mod Renaming
