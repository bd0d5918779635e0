use Rattle.std.proofs.Common.{ℕ, ◌↔◌, ◌⊎◌, take}
use Rattle.qs_tree.specs.Lists.{◌∈◌}
use Rattle.qs_clean.specs.Marks.{IsMarked}
use Rattle.qs_clean.proofs.marks.mark_path.Given as goal

abbrev pub invariant-loop-arc : goal.invariant-loop-arc
invariant-loop-arc l = (k : ℕ) → IsMarked l.marks k ↔ (IsMarked l.initial.marks k ⊎ (k ∈ take l.arc-index l.path))
