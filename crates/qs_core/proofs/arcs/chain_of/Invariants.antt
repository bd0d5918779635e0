use Rattle.std.proofs.Common.{◌≡◌, ◌+◌, ◌++◌, drop, map, vec_len}
use Rattle.std.specs.Arc.{arc_value}
use Rattle.qs_graph.specs.Chains.{chain}
use Rattle.qs_core.proofs.arcs.chain_of.Given as goal

-- the arcs so far and the chain of the trees that are left are the whole chain
abbrev pub invariant-loop-tree : goal.invariant-loop-tree
invariant-loop-tree l =
    (l.edges.items ++ chain l.at (map (λ t. arc_value t) (drop l.tree-index l.trees)) (l.node + 1) l.to
    ≡ chain l.from (map (λ t. arc_value t) l.trees) (l.last + 1) l.to)
    × (vec_len l.edges ≡ l.tree-index) × (l.node ≡ l.last + l.tree-index)
