use Rattle.std.proofs.Common.{◌≡◌, ◌++◌, drop}
use Rattle.qs_pattern.specs.Patterns.{patterns}
use Rattle.qs_check.specs.Cells.{written}
use Rattle.qs_check.proofs.cells.+add_pattern.Given as goal

abbrev pub invariant-loop-kid : goal.invariant-loop-kid
invariant-loop-kid l = l.out.items ++ written (patterns (drop l.kid-index l.kid-items)) ≡ l.initial.out.items ++ written (patterns l.kid-items)
