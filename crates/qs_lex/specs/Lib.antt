-- What the tokens of a text are, and where and why a text is refused. Each definition is this project's own.
--
-- A text is a list of bytes in UTF-8, and a place is the number of bytes before it. Characters are told by their bytes:
-- one up to U+007F is a single byte, its own number, and each byte of any other is 128 or more
-- (`laws::bytes_of_characters`).
pub mod Characters
pub mod Limits
pub mod Spelling
pub mod Places
pub mod Tokens
pub mod Refusals
pub mod Nesting
-- What the crates that read parts of a deck from its tokens share.
pub mod Grammar
pub mod Expecting
pub mod working
