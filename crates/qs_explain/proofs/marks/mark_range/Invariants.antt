use Rattle.std.proofs.Common.{◌≡◌, ◌≤◌, ◌↔◌, ◌⊎◌, ℕ}
use Rattle.qs_clean.specs.Marks.{IsMarked}
use Rattle.qs_explain.specs.working.Marks.{IsFrom}
use Rattle.qs_explain.proofs.marks.mark_range.Given as goal

abbrev pub invariant-loop-arc : goal.invariant-loop-arc
invariant-loop-arc l = ((l.arc ≡ l.from) ⊎ (l.arc ≤ l.to)) × ((k : ℕ) → IsMarked l.marks k ↔ (IsMarked l.initial.marks k ⊎ IsFrom l.from l.arc k))
