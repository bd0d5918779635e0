use Rattle.std.proofs.Common.{◌≡◌, ◌++◌, drop}
use Rattle.qs_clean.specs.working.Steps.{each_pair, keeps_mark}
use Rattle.qs_clean.proofs.arcs.kept_arcs.Given as goal

abbrev pub invariant-loop-k : goal.invariant-loop-k
invariant-loop-k l =
    l.marks.items ++ each_pair (keeps_mark l.from_entry l.to_exit) (drop l.k l.edges) (drop l.k l.denoted) ≡ each_pair (keeps_mark l.from_entry l.to_exit) l.edges l.denoted
