-- Rules as they are read, the grammar of rules, what is read from their tokens, and how they are written. Each
-- definition is this project's own.
pub mod Grammar
pub mod Reading
pub mod WrittenRules
pub mod Rules
pub mod Endings
pub mod Texts
pub mod Written
pub mod working
