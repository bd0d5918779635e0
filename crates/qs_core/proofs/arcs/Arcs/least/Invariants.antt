use Rattle.qs_tree.specs.Cells.{tree_of}
use Rattle.qs_core.proofs.Least.{IsWalked, still_left}
use Rattle.qs_core.proofs.arcs.Arcs.least.Given as goal

-- of the arcs that leave the node, those behind the next one were looked at
abbrev pub invariant-loop-next : goal.invariant-loop-next
invariant-loop-next l = IsWalked l.self.arcs l.from l.to (tree_of l.tree.cells.now) l.next l.least

abbrev pub decreases-loop-next : goal.decreases-loop-next
decreases-loop-next l = still_left l.next
