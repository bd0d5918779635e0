use Rattle.std.proofs.Common.{ap, arith}
use Rattle.qs_graph.specs.Graphs.{Arc}
use Rattle.qs_tree.proofs.Members.{in_read}
use Rattle.qs_clean.proofs.arcs.left_arcs.Goals as goal

pub bounds-numbers-edge-inside : goal.bounds-numbers-edge-inside
bounds-numbers-edge-inside c =
    omega (arith, c.requires.from_in c.index-edges-k.result (in_read c.args.edges.now c.loop-k.k c.index-edges-k.result (omega arith) c.index-edges-k.is), ap (λ (arc : Arc). arc.from) c.edge.view_is)

pub bounds-numbers-edge-inside-then-kept-k : goal.bounds-numbers-edge-inside-then-kept-k
bounds-numbers-edge-inside-then-kept-k c =
    omega (arith, c.requires.to_in c.index-edges-k.result (in_read c.args.edges.now c.loop-k.k c.index-edges-k.result (omega arith) c.index-edges-k.is), ap (λ (arc : Arc). arc.to) c.edge.view_is)
