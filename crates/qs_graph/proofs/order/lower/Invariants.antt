use Rattle.std.proofs.Common.{take}
use Rattle.qs_graph.specs.working.Orders.{IsLowered}
use Rattle.qs_graph.proofs.order.lower.Given as goal

abbrev pub invariant-loop-target : goal.invariant-loop-target
invariant-loop-target l = IsLowered (take l.target-index l.targets) l.initial.counts l.counts l.initial.order.items l.order.items
