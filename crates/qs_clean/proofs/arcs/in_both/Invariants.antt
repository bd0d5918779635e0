use Rattle.std.proofs.Common.{◌≡◌, ◌++◌, drop}
use Rattle.qs_clean.specs.working.Steps.{each_pair, both}
use Rattle.qs_clean.proofs.arcs.in_both.Given as goal

abbrev pub invariant-loop-n : goal.invariant-loop-n
invariant-loop-n l = l.marks.items ++ each_pair both (drop l.n l.first) (drop l.n l.second) ≡ each_pair both l.first l.second
