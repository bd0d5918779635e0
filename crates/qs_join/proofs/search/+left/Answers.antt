use Rattle.std.proofs.Common.{◌≡◌, ℕ, ◌-◌, ◌<◌, ◌≤◌, List, ◌∷◌, length, None, refl, sym, ap, ◌∙◌, subst, arith}
use Rattle.std.proofs.lemmas.Option.{slice_get_within}
use Rattle.std.proofs.lemmas.List.{length-map}
use Rattle.qs_graph.specs.Graphs.{Arc, IsPath}
use Rattle.qs_firing.specs.Firings.{Firing}
use Rattle.qs_firing.specs.Neighbours.{ends}
use Rattle.qs_join.specs.working.Searching.{AreUpTo, Through, Finds}
use Rattle.qs_join.proofs.Finding.{finds_same, finds_none}
use Rattle.qs_join.proofs.Walking.{Tried, steps_left, falls, next_stands, last_stands, none_tried, tried_more}
use Rattle.qs_join.proofs.Paths.{left_of, of_left, stands_left, refused_left, longer_left, up_to_left}
use Rattle.qs_join.proofs.search.+left.Goals as goal

pub extend_left-loop-next-init : goal.extend_left-loop-next-init
extend_left-loop-next-init t c =
    let s = c.args.search.now in
    let last = c.last_in-next.ensures in
    record {
      path = refl;
      stands = last_stands (ends s.view.now) c.args.from c.last_in-next.result last;
      finds = finds_none (none_tried (ends s.view.now) c.args.from (λ k f. Through s.number s.rule.now s.view.now s.newest (c.args.before - 1) (k ∷ c.args.path.now.items) f)
          (stands_left s.number s.rule.now s.view.now s.newest (c.args.before - 1) c.args.from c.args.path.now.items c.args.to c.requires.path) c.last_in-next.result last) c.args.found.now.items;
    }

pub extend_left-step_left-requires : goal.extend_left-step_left-requires
extend_left-step_left-requires t c =
    let s = c.args.search.now in
    let x = c.loop-next.invariant in
    let same = x.path in
    let long = ap (λ (ks : List ℕ). length ks) same in
    let some = c.if-before-eq0.false in (
      omega (arith, some),
      (
        (c.args.from, subst (λ (ks : List ℕ). IsPath s.view.now c.args.from ks c.args.to) (sym same) c.requires.path, x.stands c.in-Some.arc c.in-Some.is),
        (subst (AreUpTo s.newest) (sym same) c.requires.few, omega (arith, long, some, c.requires.short)),
      ),
    )

pub extend_left-before_in-next-requires : goal.extend_left-before_in-next-requires
extend_left-before_in-next-requires t c =
    let arcs = c.args.search.now.view.now in
    omega (arith, slice_get_within (ends arcs) c.in-Some.arc c.args.from (c.loop-next.invariant.stands c.in-Some.arc c.in-Some.is), length-map arcs (λ (x : Arc). x.to))

pub extend_left-loop-next-smaller : goal.extend_left-loop-next-smaller
extend_left-loop-next-smaller t c =
    let arcs = c.args.search.now.view.now in
    let here = c.loop-next.invariant.stands c.in-Some.arc c.in-Some.is in
    let less = falls (ends arcs) c.args.from c.in-Some.arc c.before_in-next.result (c.before_in-next.ensures c.args.from here) in
    subst (λ o. steps_left c.before_in-next.result < steps_left o) (sym c.in-Some.is) less

pub extend_left-loop-next-preserved : goal.extend_left-loop-next-preserved
extend_left-loop-next-preserved t c =
    let s = c.args.search.now in
    let x = c.loop-next.invariant in
    let k = c.in-Some.arc in
    let last = c.before_in-next.ensures c.args.from (x.stands k c.in-Some.is) in
    let Q : ℕ → Firing → Type 0 = λ j f. Through s.number s.rule.now s.view.now s.newest (c.args.before - 1) (j ∷ c.args.path.now.items) f in
    record {
      path = c.in_ok-step_left.ensures.path ∙ x.path;
      stands = next_stands (ends s.view.now) c.args.from k c.before_in-next.result last;
      finds = tried_more (ends s.view.now) c.args.from Q (stands_left s.number s.rule.now s.view.now s.newest (c.args.before - 1) c.args.from c.args.path.now.items c.args.to c.requires.path)
          k c.before_in-next.result c.args.found.now.items c.loop-next.found.items c.step_left.new.found.items last
          (subst (λ o. Finds (Tried Q o) c.args.found.now.items c.loop-next.found.items) c.in-Some.is x.finds)
          (subst (λ (ks : List ℕ). Finds (Through s.number s.rule.now s.view.now s.newest (c.args.before - 1) (k ∷ ks)) c.loop-next.found.items c.step_left.new.found.items) x.path c.in_ok-step_left.ensures.found);
    }

pub extend_left-returns-clause-found : goal.extend_left-returns-clause-found
extend_left-returns-clause-found t c =
    let s = c.args.search.now in
    let x = c.loop-next.invariant in
    let other = c.if-before-eq0.false in
    let some : 0 < c.args.before = omega (arith, other) in
    let Q : ℕ → Firing → Type 0 = λ j f. Through s.number s.rule.now s.view.now s.newest (c.args.before - 1) (j ∷ c.args.path.now.items) f in
    let all : Finds (Tried Q None) c.args.found.now.items c.loop-next.found.items =
    subst (λ o. Finds (Tried Q o) c.args.found.now.items c.loop-next.found.items) c.in_default.is x.finds in
    finds_same (λ f (k, h, q). of_left s.number s.rule.now s.view.now s.newest c.args.before c.args.path.now.items some f k q)
    (λ f th. let (k, q) = left_of s.number s.rule.now s.view.now s.newest c.args.before c.args.path.now.items some f th in (k, tt, q)) all

pub step_left-returns-then-not-can_stand-clause-found :
    goal.step_left-returns-then-not-can_stand-clause-found
step_left-returns-then-not-can_stand-clause-found t c =
    let s = c.args.search.now in
    finds_none (refused_left s.number s.rule.now s.view.now s.newest c.args.before c.args.path.now.items c.args.arc (c.can_stand.ensures.never c.if-not-can_stand.true)) c.args.found.now.items

pub step_left-edge-edge-requires : goal.step_left-edge-edge-requires
step_left-edge-edge-requires t c =
    let arcs = c.args.search.now.view.now in
    let (a, p, here) = c.requires.path in
    omega (arith, slice_get_within (ends arcs) c.args.arc a here, length-map arcs (λ (x : Arc). x.to))

pub step_left-extend_left-requires : goal.step_left-extend_left-requires
step_left-extend_left-requires t c =
    let s = c.args.search.now in
    let (a, p, here) = c.requires.path in
    let more : c.insert.new.self.items ≡ c.args.arc ∷ c.args.path.now.items = c.in_ok-insert.ensures.items in
    let long = ap (λ (ks : List ℕ). length ks) more in
    let from = ap (λ (x : Arc). x.from) c.edge.view_is in
    let longer = longer_left s.view.now c.args.arc c.edge-edge.result.now a c.args.path.now.items c.args.to c.edge-edge.ensures here p in
    let low : c.args.arc ≤ s.newest = c.can_stand.ensures.low c.if-not-can_stand.false in (
      omega (arith),
      (
        subst (λ (n : ℕ). IsPath s.view.now n c.insert.new.self.items c.args.to) (sym from) (subst (λ (ks : List ℕ). IsPath s.view.now c.edge-edge.result.now.from ks c.args.to) (sym more) longer),
        (
          subst (AreUpTo s.newest) (sym more) (up_to_left s.newest c.args.arc c.args.path.now.items low c.requires.few),
          omega (arith, long, c.requires.short),
        ),
      ),
    )
