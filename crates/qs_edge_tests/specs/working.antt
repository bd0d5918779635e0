-- Working definitions: tests need them.
pub mod Boards
