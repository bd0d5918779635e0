use Rattle.std.proofs.Common.{◌≡◌, length, map, take}
use Rattle.qs_canon.specs.working.CanonCounts.{paths_of}
use Rattle.qs_canon.proofs.waiting.lengths_of.Given as goal

abbrev pub invariant-loop-done : goal.invariant-loop-done
invariant-loop-done l = l.lengths.items ≡ map (λ path. length path) (paths_of (take l.done-index l.fired))
