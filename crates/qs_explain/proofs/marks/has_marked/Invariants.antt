use Rattle.std.proofs.Common.{ℕ}
use Rattle.qs_clean.specs.Marks.{IsMarked}
use Rattle.qs_explain.specs.working.Marks.{IsFrom}
use Rattle.qs_explain.proofs.marks.has_marked.Given as goal

abbrev pub invariant-loop-arc : goal.invariant-loop-arc
invariant-loop-arc l = (k : ℕ) → IsFrom l.from l.arc k → IsMarked l.marks k → ⊥
