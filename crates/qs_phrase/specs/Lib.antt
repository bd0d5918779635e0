-- The graph of a line of words, and the readings of a graph.
pub mod Words
pub mod Readings
pub mod ReadingLists
pub mod working
