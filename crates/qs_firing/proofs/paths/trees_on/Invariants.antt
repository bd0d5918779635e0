use Rattle.std.proofs.Common.{◌≡◌, take}
use Rattle.qs_graph.specs.Graphs.{trees_on}
use Rattle.qs_firing.proofs.paths.trees_on.Given as goal

abbrev pub invariant-loop-arc : goal.invariant-loop-arc
invariant-loop-arc l = l.trees ≡ trees_on l.view (take l.arc-index l.path)
