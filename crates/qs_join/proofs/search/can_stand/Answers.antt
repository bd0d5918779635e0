use Rattle.std.proofs.Common.{◌<◌, ◌∷◌, [], length, ap, ◌∙◌, subst, arith}
use Rattle.qs_tree.proofs.Members.{in_at, at_place}
use Rattle.qs_pattern.specs.Patterns.{count, patterns}
use Rattle.qs_pattern.proofs.PatternLemmas.{count-patterns}
use Rattle.qs_graph.specs.Graphs.{Arc}
use Rattle.qs_match.specs.Fitting.{NeverStandsFor}
use Rattle.qs_join.proofs.Standing.{stands_at}
use Rattle.qs_join.proofs.search.can_stand.Goals as goal

pub returns-then-arc-search-clause-never : goal.returns-then-arc-search-clause-never
returns-then-arc-search-clause-never c = λ no f by few at.
    let great = c.if-arc-search.true in
    let low = few c.args.arc (in_at f.path c.args.place c.args.arc at) in
    omega arith

pub bounds-left-place : goal.bounds-left-place
bounds-left-place c =
    let side = ap count c.left.ensures.value in
    omega (arith, c.requires.place, side, count-patterns c.left.result.now)

pub returns-clause-never : goal.returns-clause-never
returns-clause-never c = λ f g by few at.
    let s = c.args.search.now in
    let side = ap count c.left.ensures.value in
    let within : c.args.place < length c.left.result.now = omega (arith, c.requires.place, side, count-patterns c.left.result.now) in
    let here = at_place c.left.result.now c.args.place c.index-left-place.result within c.index-left-place.is in
    let tree = c.view-tree.ensures ∙ c.deref.ensures ∙ ap (λ (a : Arc). a.tree) c.behind-search.view_is in
    let never = subst (λ t. NeverStandsFor (patterns (c.index-left-place.result ∷ [])) (t ∷ [])) tree (c.can_stand_for.ensures f) in
    stands_at s.number s.rule.now s.view.now c.left.result.now c.args.place c.args.arc c.index-left-place.result c.edge.result.now c.left.ensures.accepted c.left.ensures.value here c.edge.ensures g by at never
