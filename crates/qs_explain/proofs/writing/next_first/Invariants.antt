use Rattle.std.proofs.Common.{◌≡◌, drop}
use Rattle.qs_explain.specs.Support.{next_first}
use Rattle.qs_explain.proofs.writing.next_first.Given as goal

abbrev pub invariant-loop-place : goal.invariant-loop-place
invariant-loop-place l = next_first l.arcs (drop l.place l.firings) ≡ next_first l.arcs (drop l.from l.firings)
