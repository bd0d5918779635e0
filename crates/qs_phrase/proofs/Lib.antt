pub mod Orders
pub mod Ways
pub mod Index
pub mod GoingOn
pub mod Listed
