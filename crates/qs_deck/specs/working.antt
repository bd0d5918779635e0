-- Working definitions: private functions and proofs need them, and no public contract cites one.
pub mod Syntax
pub mod Named
pub mod Marks
pub mod Versions
pub mod Readers
pub mod Checked
pub mod Answers
pub mod Codes
pub mod MadeParts
pub mod Phrases
