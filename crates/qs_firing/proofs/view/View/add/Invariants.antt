use Rattle.std.proofs.Common.{◌≡◌, ◌++◌, take}
use Rattle.qs_firing.proofs.view.View.add.Given as goal

abbrev pub invariant-loop-edge : goal.invariant-loop-edge
invariant-loop-edge l = l.self ≡ l.initial.self ++ take l.edge-index l.edges
