use Rattle.std.proofs.Common.{◌≡◌, ◌+◌, drop}
use Rattle.qs_pattern.specs.Patterns.{patterns}
use Rattle.qs_match.specs.working.Counts.{singles}
use Rattle.qs_match.proofs.counts.single_count.Given as goal

abbrev pub invariant-loop-pattern : goal.invariant-loop-pattern
invariant-loop-pattern l = l.count + singles (patterns (drop l.pattern-index l.side)) ≡ singles (patterns l.side)
