-- The graph that written chains make. That a Q-graph is made of chains of trees is Colmerauer's; how nodes are
-- numbered, and the limit, are this project's own.
use Rattle.std.specs.Prelude.{ℕ, ◌≡◌, ◌≤◌, ◌<◌, List, [], ◌∷◌, length, flat_map, slice_get, Some, nat_le, nat_eq}
use Rattle.std.specs.List.{filter}
use Rattle.std.specs.Set.{distinct_count}
use Rattle.qs_tree.specs.Trees.{Tree}
use Rattle.qs_graph.specs.Limits.{most_read_arcs}
use Rattle.qs_graph.specs.Graphs.{QGraph}
use Rattle.qs_graph.specs.Chains.{with_chain}
use Rattle.qs_graph.specs.declared.making.GraphEnd.TheVariants as graph_end
use Rattle.qs_graph.specs.Validity.{IsRefused}
use Rattle.qs_graphtext.specs.WrittenChains.{WrittenChain}
use Rattle.qs_graphtext.specs.declared.chain_end.ChainEnd.{ChainEnd}
use Rattle.qs_graphtext.specs.declared.chain_end.ChainEnd.TheVariants as chain_end

-- A written chain leads from one numbered node to another, and has trees, each with the byte at which it begins: it has
-- a tree, and a place for each of its trees.
pub record IsWhole (chain : WrittenChain) : Type 0 where
  pub some : 0 < length chain.trees
  pub places : length chain.at ≡ length chain.trees

-- The numbers of nodes, the trees and the places of all chains, in the order of the text.
abbrev pub numbers_in : List WrittenChain → List ℕ
numbers_in chains = flat_map (λ chain. chain.from ∷ chain.to ∷ []) chains

abbrev pub trees_in : List WrittenChain → List Tree
trees_in chains = flat_map (λ chain. chain.trees) chains

abbrev pub places_in : List WrittenChain → List ℕ
places_in chains = flat_map (λ chain. chain.at) chains

-- How many different numbers a list has.
abbrev pub different : List ℕ → ℕ
different ns = distinct_count nat_eq ns

-- The written numbers are made dense from 1: the new number of n is how many different written numbers are at most n.
abbrev pub dense : List ℕ → ℕ → ℕ
dense written n = different (filter (λ m. nat_le m n) written)

-- The graph with the chains behind it in order, where `number` gives the nodes from which and to which they lead. Each
-- chain goes through new nodes.
abbrev pub with_chains : (ℕ → ℕ) → QGraph → List WrittenChain → QGraph
with_chains number G [] = G
with_chains number G (chain ∷ chains) =
    with_chains number (with_chain G (number chain.from) chain.trees (number chain.to)) chains

-- The graph of the chains: its first nodes are those that have written numbers, in ascending order of these.
abbrev pub graph_of : List WrittenChain → QGraph
graph_of chains =
    with_chains (dense (numbers_in chains)) (record { nodes = different (numbers_in chains); arcs = [] }) chains

-- The chains have at most 65,536 trees, each of which makes an arc.
abbrev pub AreFew : List WrittenChain → Type 0
AreFew chains = length (trees_in chains) ≤ most_read_arcs

-- Why chains make no valid graph: there are more than 65,536 trees, and the 65,537th begins at the byte `at`; or what
-- they make has a cycle; else not exactly one entry; else not exactly one exit. Want of memory says nothing of them.
abbrev pub AreRefused : List WrittenChain → ChainEnd → Type 0
AreRefused chains (chain_end.TooManyArcs at) =
    (most_read_arcs < length (trees_in chains)) × (slice_get (places_in chains) most_read_arcs ≡ Some at)
AreRefused chains chain_end.Cycle = AreFew chains × IsRefused (graph_of chains) graph_end.Cycle
AreRefused chains chain_end.Entries = AreFew chains × IsRefused (graph_of chains) graph_end.Entries
AreRefused chains chain_end.Exits = AreFew chains × IsRefused (graph_of chains) graph_end.Exits
AreRefused chains chain_end.Memory = Unit {0}
