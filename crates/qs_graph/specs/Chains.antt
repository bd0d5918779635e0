-- Chains: trees on arcs one behind the other, through new nodes.
use Rattle.std.specs.Prelude.{ℕ, ◌+◌, ◌-◌, List, [], ◌∷◌, ◌++◌, length}
use Rattle.qs_tree.specs.Trees.{Tree}
use Rattle.qs_graph.specs.Graphs.{Arc, QGraph}

-- Arcs with these trees in order, from the node a to the node b, through new nodes numbered from `next` on.
abbrev pub chain : ℕ → List Tree → ℕ → ℕ → List Arc
chain a [] next b = []
chain a (t ∷ []) next b = record { from = a; to = b; tree = t } ∷ []
chain a (t ∷ u ∷ ts) next b = record { from = a; to = next; tree = t } ∷ chain next (u ∷ ts) (next + 1) b

-- The graph with one more chain of these trees from a to b. A chain of n trees has n arcs and n - 1 new nodes.
abbrev pub with_chain : QGraph → ℕ → List Tree → ℕ → QGraph
with_chain G a ts b = record { nodes = G.nodes + (length ts - 1); arcs = G.arcs ++ chain a ts (G.nodes + 1) b }

-- The graph of one chain between the nodes 1 and 2, in one direction or the other, with inner nodes from 3 on.
abbrev pub line_graph : ℕ → List Tree → ℕ → QGraph
line_graph a ts b = with_chain (record { nodes = 2; arcs = [] }) a ts b
