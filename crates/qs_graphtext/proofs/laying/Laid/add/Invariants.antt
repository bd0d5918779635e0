use Rattle.std.proofs.Common.{◌≡◌, ◌+◌, ◌++◌, length}
use Rattle.qs_graph.specs.Chains.{chain}
use Rattle.qs_graphtext.proofs.laying.Laid.add.Given as goal

-- the arcs so far and the chain of the trees that are left are the whole chain behind the arcs that were there
abbrev pub invariant-loop-tree : goal.invariant-loop-tree
invariant-loop-tree l =
    (l.self.edges.items ++ chain l.at l.tree-iterator.rest.items l.next l.to ≡ l.initial.self.edges.items ++ chain l.from l.fn.trees.items (l.initial.self.nodes + 1) l.to)
    × (l.left ≡ length l.tree-iterator.rest.items)
    × (l.next + length l.tree-iterator.rest.items ≡ l.initial.self.nodes + 1 + length l.fn.trees.items)
    × (l.self.nodes ≡ l.initial.self.nodes)
