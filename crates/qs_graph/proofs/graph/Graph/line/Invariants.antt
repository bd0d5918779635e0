use Rattle.std.proofs.Common.{◌≡◌, ◌+◌, ◌++◌, length, vec_len}
use Rattle.qs_graph.specs.Chains.{chain}
use Rattle.qs_graph.proofs.graph.Graph.line.Given as goal

-- the edges so far and the chain of the trees that are left are the whole chain
abbrev pub invariant-loop-tree : goal.invariant-loop-tree
invariant-loop-tree l =
    (l.edges.items ++ chain l.at l.tree-iterator.rest.items l.next l.to ≡ chain l.from l.fn.trees.items 3 l.to)
    × (vec_len l.edges + length l.tree-iterator.rest.items ≡ l.len) × (l.next ≡ 3 + vec_len l.edges)
