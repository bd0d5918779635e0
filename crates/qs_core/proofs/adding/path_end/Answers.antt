use Rattle.std.proofs.Common.{◌-◌, length, arith, ap, ◌∙◌}
use Rattle.qs_graph.specs.Graphs.{Arc}
use Rattle.qs_core.proofs.Ends.{is_arc, last_is}
use Rattle.qs_core.proofs.adding.path_end.Goals as goal

pub edge-requires : goal.edge-requires
edge-requires c =
    let (a, b, p) = c.requires in
    let some = p.some in
    is_arc c.args.arcs.now.arcs a c.args.path.now b p.leads (length c.args.path.now - 1) (omega arith)

pub returns : goal.returns
returns c =
    let (a, b, p) = c.requires in
    let some = p.some in
    ap (λ (x : Arc). x.to) c.behind-arcs.view_is
    ∙ last_is c.args.arcs.now.arcs c.args.path.now (length c.args.path.now - 1) c.edge.result.now (omega arith) c.edge.ensures
