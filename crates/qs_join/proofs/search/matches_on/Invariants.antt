use Rattle.std.proofs.Common.{◌≡◌, take}
use Rattle.qs_graph.specs.Graphs.{trees_on}
use Rattle.qs_match.specs.Apart.{trees_apart}
use Rattle.qs_join.proofs.search.matches_on.Given as goal

abbrev pub invariant-loop-arc : goal.invariant-loop-arc
invariant-loop-arc l = record {
  are : trees_apart l.trees.items ≡ trees_on l.search.view.now (take l.arc-index l.path);
}
