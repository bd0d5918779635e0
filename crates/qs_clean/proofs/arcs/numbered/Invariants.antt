use Rattle.std.proofs.Common.{◌≡◌, ◌+◌, ◌++◌, drop}
use Rattle.qs_clean.specs.working.Steps.{marked, numbering}
use Rattle.qs_clean.proofs.arcs.numbered.Given as goal

abbrev pub invariant-loop-mark : goal.invariant-loop-mark
invariant-loop-mark l =
    (l.of.items ++ numbering l.count (drop l.mark-index l.marks) ≡ numbering 0 l.marks) × (l.count + marked (drop l.mark-index l.marks) ≡ marked l.marks)
