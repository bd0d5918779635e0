mod Counting
pub mod Boards
