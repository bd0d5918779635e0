use Rattle.std.proofs.Common.{◌↔◌, length}
use Rattle.qs_tree.specs.Lists.{◌∈◌}
use Rattle.qs_tree.specs.Cells.{tree_of, trees_of}
use Rattle.qs_pattern.proofs.holding.is_in.Given as goal

abbrev pub invariant-loop-first : goal.invariant-loop-first
invariant-loop-first l = (tree_of l.tree.cells.now ∈ trees_of l.left.cells.now) ↔ (tree_of l.tree.cells.now ∈ trees_of l.list.cells.now)

abbrev pub decreases-loop-first : goal.decreases-loop-first
decreases-loop-first l = length (trees_of l.left.cells.now)
