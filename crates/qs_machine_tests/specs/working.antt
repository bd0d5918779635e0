-- Working definitions: the functions of the tests need them, and no public contract cites one.
pub mod Claims
