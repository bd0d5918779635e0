use Rattle.std.proofs.Common.{◌≡◌, take}
use Rattle.qs_firing.specs.Adding.{from_on}
use Rattle.qs_canon.proofs.numbers.Numbers.of_start.Given as goal

abbrev pub invariant-loop-arc : goal.invariant-loop-arc
invariant-loop-arc l = record {
  edges : l.edges.items ≡ take l.arc l.end.machine.state.graph.arcs;
  origins : l.origins.items ≡ from_on 0 l.arc;
}
