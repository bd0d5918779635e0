use Rattle.std.proofs.Common.{◌≡◌, ◌++◌, ◌∷◌, [], sym, ap, subst, arith, None, ℕ, List, Some, suc}
use Rattle.std.proofs.lemmas.List.{nil_from_length}
use Rattle.std.proofs.lemmas.Option.{slice_get_within}
use Rattle.qs_graph.specs.Graphs.{Arc, Leads}
use Rattle.qs_phrase.specs.working.Walking.{GoesOn}
use Rattle.qs_phrase.proofs.Index.{edge_at, least_next, least_within}
use Rattle.qs_phrase.proofs.GoingOn.{has_last, spent_first, spent_more, goes_over, next_is, last_is}
use Rattle.qs_phrase.proofs.walking.go_over.Goals as goal

pub loop-arc-init : goal.loop-arc-init
loop-arc-init c = spent_first c.args.g.now c.args.path.now.items c.requires.reading

pub index-requires : goal.index-requires
index-requires c =
    let (arc, last) = has_last c.args.g.now c.args.path.now.items c.loop-arc.path.items c.pop.new.self.items c.in-Some.arc c.in-Some.ensures.items c.loop-arc.invariant in
    omega (arith, slice_get_within c.args.g.now.arcs c.in-Some.arc arc last.is, c.requires.index.next_len, c.args.leaving.now.next.ok.0)

pub bounds-edges-other : goal.bounds-edges-other
bounds-edges-other c =
    let G = c.args.g.now in
    let (arc, last) = has_last G c.args.path.now.items c.loop-arc.path.items c.pop.new.self.items c.in-Some.arc c.in-Some.ensures.items c.loop-arc.invariant in
    least_within G.arcs c.edges-edges.result.now arc.from (suc c.in-Some.arc) c.in-Some-index.other c.edges-edges.ensures.value
    (least_next c.requires.index c.in-Some.arc arc c.index.result.now (Some c.in-Some-index.other) last.is c.index.ensures c.in-Some-index.is)

pub go_on-requires-clause-path : goal.go_on-requires-clause-path
go_on-requires-clause-path c =
    let G = c.args.g.now in
    let (arc, last) = has_last G c.args.path.now.items c.loop-arc.path.items c.pop.new.self.items c.in-Some.arc c.in-Some.ensures.items c.loop-arc.invariant in
    let least = least_next c.requires.index c.in-Some.arc arc c.index.result.now (Some c.in-Some-index.other) last.is c.index.ensures c.in-Some-index.is in
    let within = least_within G.arcs c.edges-edges.result.now arc.from (suc c.in-Some.arc) c.in-Some-index.other c.edges-edges.ensures.value least in
    let at = edge_at G.arcs c.edges-edges.result.now c.in-Some-index.other c.index-edges-other.result c.edges-edges.ensures.value within c.index-edges-other.is in
    let to = ap (λ (x : Arc). x.to) c.edge.view_is in
    let leads = goes_over G c.args.path.now.items c.loop-arc.path.items c.pop.new.self.items c.in-Some.arc arc c.in-Some-index.other c.index-edges-other.result last least at in
    (last.entry, last.is_entry, subst (λ n. Leads G.arcs last.entry c.push.new.self.items n) (sym to) (subst (λ (ks : List ℕ). Leads G.arcs last.entry ks c.index-edges-other.result.to) (sym c.in_ok-push.ensures.items) leads))

pub returns-in-Some-index-clause-next : goal.returns-in-Some-index-clause-next
returns-in-Some-index-clause-next c = λ _.
    let G = c.args.g.now in
    let (arc, last) = has_last G c.args.path.now.items c.loop-arc.path.items c.pop.new.self.items c.in-Some.arc c.in-Some.ensures.items c.loop-arc.invariant in
    let least = least_next c.requires.index c.in-Some.arc arc c.index.result.now (Some c.in-Some-index.other) last.is c.index.ensures c.in-Some-index.is in
    let within = least_within G.arcs c.edges-edges.result.now arc.from (suc c.in-Some.arc) c.in-Some-index.other c.edges-edges.ensures.value least in
    let at = edge_at G.arcs c.edges-edges.result.now c.in-Some-index.other c.index-edges-other.result c.edges-edges.ensures.value within c.index-edges-other.is in
    let to = ap (λ (x : Arc). x.to) c.edge.view_is in
    next_is G c.edges-edges.ensures.valid c.args.path.now.items c.loop-arc.path.items c.pop.new.self.items c.in-Some.arc arc c.in-Some-index.other c.index-edges-other.result c.go_on.new.path.items last least at
    (subst (λ n. GoesOn G n (c.pop.new.self.items ++ c.in-Some-index.other ∷ []) c.go_on.new.path.items) to (subst (λ (ks : List ℕ). GoesOn G c.edge.inside.to ks c.go_on.new.path.items) c.in_ok-push.ensures.items c.in_ok-go_on.ensures))

pub loop-arc-preserved : goal.loop-arc-preserved
loop-arc-preserved c =
    let G = c.args.g.now in
    let (arc, last) = has_last G c.args.path.now.items c.loop-arc.path.items c.pop.new.self.items c.in-Some.arc c.in-Some.ensures.items c.loop-arc.invariant in
    spent_more G c.args.path.now.items c.loop-arc.path.items c.pop.new.self.items c.in-Some.arc arc last
    (least_next c.requires.index c.in-Some.arc arc c.index.result.now None last.is c.index.ensures c.in_default-index.is)

pub returns-clause-last : goal.returns-clause-last
returns-clause-last c = λ _.
    let none : c.loop-arc.path.items ≡ [] = nil_from_length c.loop-arc.path.items (omega (arith, c.loop-arc.path.ok.0, c.in_default.ensures.cases.0)) in
    last_is c.args.g.now c.edges-edges.ensures.valid c.args.path.now.items c.loop-arc.path.items none c.loop-arc.invariant
