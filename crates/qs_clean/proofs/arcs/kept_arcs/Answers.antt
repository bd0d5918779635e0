use Rattle.std.proofs.Common.{ap, arith}
use Rattle.qs_graph.specs.Graphs.{Arc}
use Rattle.qs_tree.proofs.Members.{in_read}
use Rattle.qs_clean.proofs.arcs.kept_arcs.Goals as goal

pub bounds-from_entry-edge-inside : goal.bounds-from_entry-edge-inside
bounds-from_entry-edge-inside c =
    omega (arith, c.requires.from_in c.index-edges-k.result (in_read c.args.edges.now c.loop-k.k c.index-edges-k.result (omega arith) c.index-edges-k.is), ap (λ (arc : Arc). arc.from) c.edge.view_is)

pub bounds-to_exit-edge-inside : goal.bounds-to_exit-edge-inside
bounds-to_exit-edge-inside c =
    omega (arith, c.requires.to_in c.index-edges-k.result (in_read c.args.edges.now c.loop-k.k c.index-edges-k.result (omega arith) c.index-edges-k.is), ap (λ (arc : Arc). arc.to) c.edge.view_is)
