-- Chains as they are written, the grammar of graphs, what is read from their tokens, the graph that chains make, the
-- text of a graph, and that a text is read as its graph. Each definition is this project's own,
-- but that a graph is made of chains.
pub mod WrittenChains
pub mod Grammar
pub mod Reading
pub mod Refusals
pub mod GraphOfChains
pub mod Causes
pub mod Texts
pub mod ChainsOfArcs
pub mod working
