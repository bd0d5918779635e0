-- What naming and the steps of a reader mean. Each definition is this project's own.
pub mod Names
pub mod Readers
pub mod working
