use Rattle.std.proofs.Common.{[], ◌∷◌, length, sym, ap, subst, arith, None, ℕ, List, Some, length-append}
use Rattle.qs_graph.specs.Graphs.{Arc}
use Rattle.qs_phrase.proofs.Index.{edge_at, least_first, least_within}
use Rattle.qs_phrase.proofs.GoingOn.{IsGoing, going_first, going_low, going_short, going_more, going_last}
use Rattle.qs_phrase.proofs.walking.go_on.Goals as goal

pub loop-arc-init : goal.loop-arc-init
loop-arc-init c =
    let (a, entry, leads) = c.requires.path in
    going_first c.args.g.now c.edges-edges.ensures.valid a c.args.from c.args.path.now.items entry leads

pub index-requires : goal.index-requires
index-requires c =
    omega (arith, going_low c.args.g.now c.edges-edges.ensures.valid c.loop-arc.invariant, c.requires.index.first_len, c.args.leaving.now.first.ok.0)

pub bounds-edges-arc : goal.bounds-edges-arc
bounds-edges-arc c =
    let low = going_low c.args.g.now c.edges-edges.ensures.valid c.loop-arc.invariant in
    least_within c.args.g.now.arcs c.edges-edges.result.now c.loop-arc.at 0 c.in-Some.arc c.edges-edges.ensures.value
    (least_first c.requires.index c.loop-arc.at c.index.result.now (Some c.in-Some.arc) (omega (arith, low, c.requires.index.first_len)) c.index.ensures c.in-Some.is)

pub loop-arc-smaller : goal.loop-arc-smaller
loop-arc-smaller c =
    omega (
      arith,
      going_short c.args.g.now c.edges-edges.ensures.valid c.loop-arc.invariant,
      ap (λ (ks : List ℕ). length ks) c.in_ok-push.ensures.items,
      length-append c.loop-arc.path.items (c.in-Some.arc ∷ []),
    )

pub loop-arc-preserved : goal.loop-arc-preserved
loop-arc-preserved c =
    let G = c.args.g.now in
    let low = going_low G c.edges-edges.ensures.valid c.loop-arc.invariant in
    let least = least_first c.requires.index c.loop-arc.at c.index.result.now (Some c.in-Some.arc) (omega (arith, low, c.requires.index.first_len)) c.index.ensures c.in-Some.is in
    let within = least_within G.arcs c.edges-edges.result.now c.loop-arc.at 0 c.in-Some.arc c.edges-edges.ensures.value least in
    let at = edge_at G.arcs c.edges-edges.result.now c.in-Some.arc c.index-edges-arc.result c.edges-edges.ensures.value within c.index-edges-arc.is in
    let to = ap (λ (x : Arc). x.to) c.edge.view_is in
    subst (λ n. IsGoing G c.args.from c.args.path.now.items c.push.new.self.items n) (sym to)
    (subst (λ (ks : List ℕ). IsGoing G c.args.from c.args.path.now.items ks c.index-edges-arc.result.to) (sym c.in_ok-push.ensures.items)
    (going_more G c.edges-edges.ensures.valid c.args.from c.args.path.now.items c.loop-arc.path.items c.loop-arc.at c.in-Some.arc c.index-edges-arc.result at least c.loop-arc.invariant))

pub returns : goal.returns
returns c =
    let G = c.args.g.now in
    let low = going_low G c.edges-edges.ensures.valid c.loop-arc.invariant in
    let none = least_first c.requires.index c.loop-arc.at c.index.result.now None (omega (arith, low, c.requires.index.first_len)) c.index.ensures c.in_default.is in
    going_last G c.edges-edges.ensures.valid c.args.from c.args.path.now.items c.loop-arc.path.items c.loop-arc.at none c.loop-arc.invariant
