use Rattle.std.proofs.Common.{◌≡◌, map, take}
use Rattle.qs_pattern.specs.working.Patterns.{one_pattern}
use Rattle.qs_pattern.proofs.copies.copies_of.Given as goal

abbrev pub invariant-loop-pattern : goal.invariant-loop-pattern
invariant-loop-pattern l = map one_pattern l.copies.items ≡ map one_pattern (take l.pattern-index l.list)
