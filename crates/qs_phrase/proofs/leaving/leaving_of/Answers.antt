use Rattle.std.proofs.Common.{◌≡◌, ◌+◌, ◌-◌, ◌∙◌, length, sym, ap, subst, arith, rules, replicate, None, List}
use Rattle.qs_tree.proofs.Members.{at_place}
use Rattle.qs_graph.specs.Graphs.{Arc}
use Rattle.qs_phrase.specs.working.Leaving.{IsIndex}
use Rattle.qs_phrase.proofs.Index.{no_arc_yet, arc_indexed, edge_at, from_low}
use Rattle.qs_phrase.proofs.leaving.leaving_of.Goals as goal

pub loop-arc-init : goal.loop-arc-init
loop-arc-init c =
    let G = c.args.g.now in
    let arcs = c.edges-edges.ensures.value in
    let first : c.in_ok-first.first.items ≡ replicate (G.nodes + 1) None = c.in_ok-first.ensures.items_if_clones_equal (search rules) ∙ ap (λ n. replicate (n + 1) None) c.nodes.ensures in
    let next : c.in_ok-next.next.items ≡ replicate (length G.arcs) None = c.in_ok-next.ensures.items_if_clones_equal (search rules) ∙ ap (λ (xs : List Arc). replicate (length xs) None) arcs in
    (subst (λ n. IsIndex G n c.in_ok-first.first.items c.in_ok-next.next.items) (sym (ap (λ (xs : List Arc). length xs) arcs)) (no_arc_yet G c.in_ok-first.first.items c.in_ok-next.next.items first next), omega arith)

pub index-requires : goal.index-requires
index-requires c =
    let low = from_low c.args.g.now c.edges-edges.ensures.valid c.edges-edges.result.now (c.loop-arc.arc - 1) c.index-edges-arc.result c.edge.inside.from c.edges-edges.ensures.value (omega (arith, c.loop-arc.invariant.1)) c.index-edges-arc.is (ap (λ (x : Arc). x.from) c.edge.view_is) in
    omega (arith, low, c.loop-arc.invariant.0.first_len, c.loop-arc.first.ok.0)

pub index_mut-requires-in-loop-arc : goal.index_mut-requires-in-loop-arc
index_mut-requires-in-loop-arc c =
    let low = from_low c.args.g.now c.edges-edges.ensures.valid c.edges-edges.result.now (c.loop-arc.arc - 1) c.index-edges-arc.result c.edge.inside.from c.edges-edges.ensures.value (omega (arith, c.loop-arc.invariant.1)) c.index-edges-arc.is (ap (λ (x : Arc). x.from) c.edge.view_is) in
    omega (arith, low, c.loop-arc.invariant.0.first_len, c.loop-arc.first.ok.0)

pub loop-arc-preserved : goal.loop-arc-preserved
loop-arc-preserved c =
    let G = c.args.g.now in
    let from = ap (λ (x : Arc). x.from) c.edge.view_is in
    let at = edge_at G.arcs c.edges-edges.result.now (c.loop-arc.arc - 1) c.index-edges-arc.result c.edges-edges.ensures.value (omega (arith, c.loop-arc.invariant.1)) c.index-edges-arc.is in
    let low = from_low G c.edges-edges.ensures.valid c.edges-edges.result.now (c.loop-arc.arc - 1) c.index-edges-arc.result c.edge.inside.from c.edges-edges.ensures.value (omega (arith, c.loop-arc.invariant.1)) c.index-edges-arc.is from in (
      arc_indexed G c.loop-arc.arc (c.loop-arc.arc - 1) c.edge.inside.from c.index-edges-arc.result c.index.result.now c.loop-arc.first.items c.loop-arc.next.items (omega arith) from at
          (at_place c.loop-arc.first.items c.edge.inside.from c.index.result.now (omega (arith, low, c.loop-arc.invariant.0.first_len)) c.index.ensures) c.loop-arc.invariant.0,
      omega (arith, c.loop-arc.invariant.1),
    )
