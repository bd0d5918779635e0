use Rattle.std.proofs.Common.{◌≡◌, ◌+◌, length}
use Rattle.qs_tree.specs.Cells.{trees_of}
use Rattle.qs_tree.proofs.borrowed.ForestRef.len.Given as goal

abbrev pub invariant-loop-rest : goal.invariant-loop-rest
invariant-loop-rest l = l.count + length (trees_of l.left.cells.now) ≡ length (trees_of l.self.cells.now)

abbrev pub decreases-loop-rest : goal.decreases-loop-rest
decreases-loop-rest l = length (trees_of l.left.cells.now)
