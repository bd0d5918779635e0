use Rattle.std.proofs.Common.{◌↔◌, length}
use Rattle.qs_tree.specs.Lists.{◌∈◌}
use Rattle.qs_tree.specs.Trees.{Tree}
use Rattle.qs_tree.specs.Cells.{trees_of}
use Rattle.qs_pattern.proofs.holding.are_all_in.Given as goal

abbrev pub invariant-loop-first : goal.invariant-loop-first
invariant-loop-first l = ((t : Tree) → t ∈ trees_of l.left.cells.now → t ∈ trees_of l.list.cells.now) ↔ ((t : Tree) → t ∈ trees_of l.some.cells.now → t ∈ trees_of l.list.cells.now)

abbrev pub decreases-loop-first : goal.decreases-loop-first
decreases-loop-first l = length (trees_of l.left.cells.now)
