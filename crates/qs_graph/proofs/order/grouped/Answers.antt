use Rattle.std.proofs.Common.{◌≡◌, ◌<◌, ◌+◌, ◌++◌, ◌∷◌, [], length, take, ◌∙◌, ap, sym, arith, length-set}
use Rattle.std.proofs.lemmas.List.{take_more}
use Rattle.qs_graph.specs.Graphs.{Arc}
use Rattle.qs_tree.proofs.Members.{in_read}
use Rattle.qs_graph.proofs.Lowering.{group_step}
use Rattle.qs_graph.proofs.order.grouped.Goals as goal

-- the arc is one of those between the nodes
in_range : (c : goal.After-row_known-1) → c.edge.inside.from < length c.loop-edge.groups.items
in_range c =
    let i = in_read c.args.edges.now c.loop-edge.edge-index c.edge-item.result c.loop-edge-test.true c.edge-item.is in
    omega (arith, c.requires c.edge-item.result i, ap (λ (x : Arc). x.from) c.edge.view_is, c.loop-edge.invariant.1)

pub index_mut-requires : goal.index_mut-requires
index_mut-requires c = omega (arith, in_range c, c.loop-edge.groups.ok.0)

pub loop-edge-preserved : goal.loop-edge-preserved
loop-edge-preserved c =
    let i = in_read c.args.edges.now c.loop-edge.edge-index c.edge-item.result c.loop-edge-test.true c.edge-item.is in
    let from = ap (λ (x : Arc). x.from) c.edge.view_is in
    let low : c.edge.inside.from < length c.loop-edge.groups.items = omega (arith, c.requires c.edge-item.result i, from, c.loop-edge.invariant.1) in
    let more : take (c.loop-edge.edge-index + 1) c.args.edges.now ≡ take c.loop-edge.edge-index c.args.edges.now ++ c.edge-item.result ∷ [] =
    take_more c.args.edges.now c.loop-edge.edge-index c.edge-item.result c.loop-edge-test.true ∙ ap (λ x. take c.loop-edge.edge-index c.args.edges.now ++ x ∷ []) (sym c.edge-item.is) in (
      group_step c.args.edges.now c.loop-edge.edge-index c.edge-item.result c.loop-edge.groups.items c.edge.inside.from c.edge.inside.to c.index_mut.result.now c.push.new.self more
          (sym from) (sym (ap (λ (x : Arc). x.to) c.edge.view_is)) low c.index_mut.ensures.value c.in_ok-push.ensures.items c.loop-edge.invariant.0,
      length-set c.loop-edge.groups.items _ _ ∙ c.loop-edge.invariant.1,
    )
