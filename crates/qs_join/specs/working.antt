-- Working definitions: private functions and proofs need them, and no public contract cites one.
pub mod Below
pub mod Listing
pub mod Matching
pub mod Searching
pub mod Sorting
