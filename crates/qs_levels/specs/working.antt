-- Working definitions: private functions and proofs need them, and no public contract cites one.
pub mod Tops
pub mod Steps
pub mod Ordering
pub mod Accepting
