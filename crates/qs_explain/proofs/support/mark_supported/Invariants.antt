use Rattle.qs_explain.proofs.Supporting.{Supports}
use Rattle.qs_explain.proofs.support.mark_supported.Given as goal

abbrev pub invariant-loop-place : goal.invariant-loop-place
invariant-loop-place l = Supports l.closure.stage l.place l.behind l.arcs l.firings.items
