use Rattle.std.proofs.Common.{◌≡◌, ◌++◌, drop}
use Rattle.qs_pattern.specs.Patterns.{patterns}
use Rattle.qs_check.specs.Cells.{written}
use Rattle.qs_check.proofs.cells.add_patterns.Given as goal

abbrev pub invariant-loop-pattern : goal.invariant-loop-pattern
invariant-loop-pattern l = l.out.items ++ written (patterns (drop l.pattern-index l.list)) ≡ l.initial.out.items ++ written (patterns l.list)
