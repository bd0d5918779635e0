use Rattle.std.proofs.Common.{◌≡◌, ◌++◌, ◌+◌, length, take}
use Rattle.qs_tree.specs.Cells.{tree_of}
use Rattle.qs_tree.specs.Text.{tree_text}
use Rattle.qs_tree.proofs.Walk.{Walks, forests, open_size, here_size}
use Rattle.qs_tree.proofs.text.append_tree.Given as goal

abbrev pub invariant-loop-next : goal.invariant-loop-next
invariant-loop-next l = record {
  written : Walks l.names (length l.names) (l.initial.out.items ++ tree_text l.names (tree_of l.tree.cells.now)) l.out.items l.next (forests l.waiting.items);
  kept : take (length l.initial.out.items) l.out.items ≡ l.initial.out.items;
}

abbrev pub decreases-loop-next : goal.decreases-loop-next
decreases-loop-next l = here_size l.next + open_size (forests l.waiting.items)
