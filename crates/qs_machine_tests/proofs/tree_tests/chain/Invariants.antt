use Rattle.std.proofs.Common.{◌≡◌, ◌++◌}
use Rattle.qs_tree.specs.Cells.{cells_of}
use Rattle.qs_machine_tests.proofs.Chains.{chain}
use Rattle.qs_machine_tests.proofs.tree_tests.chain.Given as goal

abbrev pub invariant-loop-left : goal.invariant-loop-left
invariant-loop-left l = l.cells.items ++ cells_of (chain l.label l.left) ≡ cells_of (chain l.label l.depth)

abbrev pub decreases-loop-left : goal.decreases-loop-left
decreases-loop-left l = l.left
