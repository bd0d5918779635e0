use Rattle.std.proofs.Common.{ℕ, ◌↔◌, drop}
use Rattle.qs_graph.specs.Graphs.{Leads}
use Rattle.qs_firing.proofs.paths.leads_on.Given as goal

abbrev pub invariant-loop-arc : goal.invariant-loop-arc
invariant-loop-arc l = (b : ℕ) → Leads l.view l.at (drop l.arc-index l.path) b ↔ Leads l.view l.from l.path b
