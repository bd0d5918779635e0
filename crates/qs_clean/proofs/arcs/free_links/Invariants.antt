use Rattle.std.proofs.Common.{◌≡◌, ◌++◌, drop}
use Rattle.qs_clean.specs.working.Steps.{each_pair, free_link}
use Rattle.qs_clean.proofs.arcs.free_links.Given as goal

abbrev pub invariant-loop-k : goal.invariant-loop-k
invariant-loop-k l = l.links.items ++ each_pair free_link (drop l.k l.edges) (drop l.k l.denoted) ≡ each_pair free_link l.edges l.denoted
