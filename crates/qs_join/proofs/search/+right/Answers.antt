use Rattle.std.proofs.Common.{◌≡◌, ℕ, ◌<◌, ◌≤◌, List, [], ◌∷◌, ◌++◌, length, None, slice_get, refl, sym, ap, ◌∙◌, subst, arith, length-append}
use Rattle.std.proofs.lemmas.Option.{slice_get_within}
use Rattle.std.proofs.lemmas.List.{length-map}
use Rattle.qs_pattern.specs.Patterns.{count}
use Rattle.qs_pattern.proofs.PatternLemmas.{count-patterns}
use Rattle.qs_graph.specs.Graphs.{Arc, IsPath}
use Rattle.qs_firing.specs.Firings.{Firing}
use Rattle.qs_firing.specs.Neighbours.{starts}
use Rattle.qs_join.specs.working.Searching.{AreUpTo, Through, Finds}
use Rattle.qs_join.proofs.Finding.{finds_same, finds_none}
use Rattle.qs_join.proofs.Walking.{Tried, steps_left, falls, next_stands, last_stands, none_tried, tried_more}
use Rattle.qs_join.proofs.Paths.{right_of, of_right, stands_right, refused_right, longer_right, up_to_right}
use Rattle.qs_join.proofs.search.+right.Goals as goal

pub extend_right-fire-requires-clause-few : goal.extend_right-fire-requires-clause-few
extend_right-fire-requires-clause-few t c = subst (AreUpTo c.args.search.now.newest) (sym c.deref.ensures.value) c.requires.few

pub extend_right-fire-requires-clause-long : goal.extend_right-fire-requires-clause-long
extend_right-fire-requires-clause-long t c =
    c.deref.ensures.len ∙ sym c.len.ensures ∙ c.if-len-left.true ∙ sym (count-patterns c.left.result.now) ∙ ap count c.left.ensures.value

pub extend_right-loop-next-init : goal.extend_right-loop-next-init
extend_right-loop-next-init t c =
    let s = c.args.search.now in
    let (a, p) = c.requires.path in
    let last = c.last_out-next.ensures in
    record {
      path = refl;
      stands = last_stands (starts s.view.now) c.args.at c.last_out-next.result last;
      finds = finds_none (none_tried (starts s.view.now) c.args.at (λ k f. Through s.number s.rule.now s.view.now s.newest 0 (c.args.path.now.items ++ k ∷ []) f)
          (stands_right s.number s.rule.now s.view.now s.newest a c.args.path.now.items c.args.at p) c.last_out-next.result last) c.args.found.now.items;
    }

pub extend_right-step_right-requires : goal.extend_right-step_right-requires
extend_right-step_right-requires t c =
    let s = c.args.search.now in
    let (a, p) = c.requires.path in
    let x = c.loop-next.invariant in
    let same = x.path in
    let long = ap (λ (ks : List ℕ). length ks) same in
    let side = ap count c.left.ensures.value in
    let other = c.if-len-left.false in
    let short : length c.args.path.now.items < count s.rule.now.left =
    omega (arith, other, c.len.ensures, c.requires.short, side, count-patterns c.left.result.now, c.args.path.now.ok.0) in (
      omega (arith, long, short),
      (
        (a, c.args.at, subst (λ (ks : List ℕ). IsPath s.view.now a ks c.args.at) (sym same) p, x.stands c.in-Some.arc c.in-Some.is),
        (subst (AreUpTo s.newest) (sym same) c.requires.few, omega (arith, long, short)),
      ),
    )

pub extend_right-before_out-next-requires : goal.extend_right-before_out-next-requires
extend_right-before_out-next-requires t c =
    let arcs = c.args.search.now.view.now in
    omega (arith, slice_get_within (starts arcs) c.in-Some.arc c.args.at (c.loop-next.invariant.stands c.in-Some.arc c.in-Some.is), length-map arcs (λ (x : Arc). x.from))

pub extend_right-loop-next-smaller : goal.extend_right-loop-next-smaller
extend_right-loop-next-smaller t c =
    let arcs = c.args.search.now.view.now in
    let here = c.loop-next.invariant.stands c.in-Some.arc c.in-Some.is in
    let less = falls (starts arcs) c.args.at c.in-Some.arc c.before_out-next.result (c.before_out-next.ensures c.args.at here) in
    subst (λ o. steps_left c.before_out-next.result < steps_left o) (sym c.in-Some.is) less

pub extend_right-loop-next-preserved : goal.extend_right-loop-next-preserved
extend_right-loop-next-preserved t c =
    let s = c.args.search.now in
    let (a, p) = c.requires.path in
    let x = c.loop-next.invariant in
    let k = c.in-Some.arc in
    let last = c.before_out-next.ensures c.args.at (x.stands k c.in-Some.is) in
    let Q : ℕ → Firing → Type 0 = λ j f. Through s.number s.rule.now s.view.now s.newest 0 (c.args.path.now.items ++ j ∷ []) f in
    record {
      path = c.in_ok-step_right.ensures.path ∙ x.path;
      stands = next_stands (starts s.view.now) c.args.at k c.before_out-next.result last;
      finds = tried_more (starts s.view.now) c.args.at Q (stands_right s.number s.rule.now s.view.now s.newest a c.args.path.now.items c.args.at p)
          k c.before_out-next.result c.args.found.now.items c.loop-next.found.items c.step_right.new.found.items last
          (subst (λ o. Finds (Tried Q o) c.args.found.now.items c.loop-next.found.items) c.in-Some.is x.finds)
          (subst (λ (ks : List ℕ). Finds (Through s.number s.rule.now s.view.now s.newest 0 (ks ++ k ∷ [])) c.loop-next.found.items c.step_right.new.found.items) x.path c.in_ok-step_right.ensures.found);
    }

pub extend_right-returns-clause-found : goal.extend_right-returns-clause-found
extend_right-returns-clause-found t c =
    let s = c.args.search.now in
    let x = c.loop-next.invariant in
    let side = ap count c.left.ensures.value in
    let other = c.if-len-left.false in
    let short : length c.args.path.now.items < count s.rule.now.left =
    omega (arith, other, c.len.ensures, c.requires.short, side, count-patterns c.left.result.now, c.args.path.now.ok.0) in
    let Q : ℕ → Firing → Type 0 = λ j f. Through s.number s.rule.now s.view.now s.newest 0 (c.args.path.now.items ++ j ∷ []) f in
    let all : Finds (Tried Q None) c.args.found.now.items c.loop-next.found.items =
    subst (λ o. Finds (Tried Q o) c.args.found.now.items c.loop-next.found.items) c.in_default.is x.finds in
    finds_same (λ f (k, h, q). of_right s.number s.rule.now s.view.now s.newest c.args.path.now.items f k q)
    (λ f th. let (k, q) = right_of s.number s.rule.now s.view.now s.newest c.args.path.now.items short f th in (k, tt, q)) all

pub step_right-returns-then-not-can_stand-clause-found :
    goal.step_right-returns-then-not-can_stand-clause-found
step_right-returns-then-not-can_stand-clause-found t c =
    let s = c.args.search.now in
    finds_none (refused_right s.number s.rule.now s.view.now s.newest c.args.path.now.items c.args.arc
    (λ f by few at. c.can_stand.ensures.never c.if-not-can_stand.true f by few (ap (slice_get f.path) (let n : c.len.result ≡ length c.args.path.now.items = omega (arith, c.len.ensures, c.args.path.now.ok.0) in n) ∙ at))) c.args.found.now.items

pub step_right-edge-edge-requires : goal.step_right-edge-edge-requires
step_right-edge-edge-requires t c =
    let arcs = c.args.search.now.view.now in
    let (a, b, p, here) = c.requires.path in
    omega (arith, slice_get_within (starts arcs) c.args.arc b here, length-map arcs (λ (x : Arc). x.from))

pub step_right-extend_right-requires : goal.step_right-extend_right-requires
step_right-extend_right-requires t c =
    let s = c.args.search.now in
    let (a, b, p, here) = c.requires.path in
    let more = c.in_ok-push.ensures.items in
    let long = ap (λ (ks : List ℕ). length ks) more in
    let one = length-append c.args.path.now.items (c.args.arc ∷ []) in
    let to = ap (λ (x : Arc). x.to) c.edge.view_is in
    let longer = longer_right s.view.now c.args.arc c.edge-edge.result.now a c.args.path.now.items b c.edge-edge.ensures here p in
    let low : c.args.arc ≤ s.newest = c.can_stand.ensures.low c.if-not-can_stand.false in (
      omega (arith, long, one, c.requires.short),
      (
        (a, subst (λ (n : ℕ). IsPath s.view.now a c.push.new.self.items n) (sym to) (subst (λ (ks : List ℕ). IsPath s.view.now a ks c.edge-edge.result.now.to) (sym more) longer)),
        (
          subst (AreUpTo s.newest) (sym more) (up_to_right s.newest c.args.arc c.args.path.now.items low c.requires.few),
          omega (arith, long, one, c.requires.short),
        ),
      ),
    )
