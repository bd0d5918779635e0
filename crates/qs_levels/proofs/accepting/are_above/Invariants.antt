use Rattle.std.proofs.Common.{take, nat_eq}
use Rattle.std.specs.HashMap.{get}
use Rattle.qs_pattern.specs.Patterns.{patterns}
use Rattle.qs_levels.specs.working.Accepting.{AreAbove}
use Rattle.qs_levels.proofs.accepting.are_above.Given as goal

abbrev pub invariant-loop-pattern : goal.invariant-loop-pattern
invariant-loop-pattern l = AreAbove (λ n. get nat_eq l.known n) (patterns (take l.pattern-index l.side)) l.floor
