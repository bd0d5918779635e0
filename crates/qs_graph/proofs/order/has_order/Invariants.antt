use Rattle.qs_graph.proofs.Taking.{IsTaking}
use Rattle.qs_graph.proofs.order.has_order.Given as goal

abbrev pub invariant-loop-taken : goal.invariant-loop-taken
invariant-loop-taken l = IsTaking l.nodes l.edges l.counts.items l.order.items l.taken
