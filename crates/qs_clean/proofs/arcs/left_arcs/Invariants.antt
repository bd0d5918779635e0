use Rattle.std.proofs.Common.{◌≡◌, ◌++◌, drop}
use Rattle.qs_clean.specs.working.Steps.{each_pair, if_kept}
use Rattle.qs_clean.proofs.arcs.left_arcs.Given as goal

abbrev pub invariant-loop-k : goal.invariant-loop-k
invariant-loop-k l = l.left.items ++ each_pair (if_kept l.numbers) (drop l.k l.edges) (drop l.k l.kept) ≡ each_pair (if_kept l.numbers) l.edges l.kept
