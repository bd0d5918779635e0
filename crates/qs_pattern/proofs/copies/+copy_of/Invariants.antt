use Rattle.std.proofs.Common.{◌≡◌, map, take}
use Rattle.qs_pattern.specs.working.Patterns.{one_pattern}
use Rattle.qs_pattern.proofs.copies.+copy_of.Given as goal

abbrev pub invariant-loop-kid : goal.invariant-loop-kid
invariant-loop-kid l = map one_pattern l.copies.items ≡ map one_pattern (take l.kid-index l.kid-items)
