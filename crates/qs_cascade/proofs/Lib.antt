pub mod Closings
pub mod Leaves
pub mod OneEnd
