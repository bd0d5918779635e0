use Rattle.std.proofs.Common.{◌≡◌, suc, ◌<◌, ◌-◌, false, true, length, drop, set, replicate, Some, slice_get, sym, ◌∙◌, ap, subst, arith}
use Rattle.qs_tree.proofs.Members.{in_at, at_place}
use Rattle.qs_canon.specs.Rounds.{Done}
use Rattle.qs_canon.specs.Closures.{ClosureOf}
use Rattle.qs_clean.proofs.Closures.{path_within}
use Rattle.qs_explain.proofs.Laid.{next_low, laid-drop}
use Rattle.qs_explain.proofs.Grounded.{laid}
use Rattle.qs_explain.proofs.Supporting.{Supports, supports_start, supports_met, supports_step, arc_marked, firing_marked}
use Rattle.qs_explain.proofs.support.mark_supported.Goals as goal

pub loop-place-init : goal.loop-place-init
loop-place-init c =
    let arcs_view = ap (λ (V : ClosureOf). length V.stage.graph.arcs) c.closure.view_is in
    let done_view = ap (λ (V : ClosureOf). length V.stage.done) c.closure.view_is in
    let none : c.in_ok-firings.firings.items ≡ replicate c.len.result false = c.in_ok-firings.ensures.items_if_clones_equal (λ y h. h) in
    let many : c.len.result ≡ length c.args.closure.now.stage.done = omega (arith, done_view, c.len.ensures, c.closure.inside.firings.ok.0) in
    supports_start c.args.closure.now.stage c.args.arcs.now c.in_ok-firings.firings.items c.len-place.result c.len-behind.result c.requires.len c.requires.stay (none ∙ ap (λ n. replicate n false) many)
    (omega (arith, done_view, c.len-place.ensures, c.closure.inside.firings.ok.0)) (omega (arith, arcs_view, c.len-behind.ensures, c.closure.inside.edges.ok.0))

pub mark_firing-requires-clause-behind : goal.mark_firing-requires-clause-behind
mark_firing-requires-clause-behind c =
    let low = next_low c.requires.closure.rules (length c.args.closure.now.stage.graph.arcs) (drop c.loop-place.place c.args.closure.now.stage.done)
    (laid-drop c.requires.closure.rules (length c.args.closure.now.stage.graph.arcs) c.loop-place.place c.args.closure.now.stage.done (laid c.args.closure.now c.requires.closure).laid) in
    omega (arith, low, c.loop-place.invariant.behind_is, c.loop-place.invariant.arcs_len)

pub mark_firing-requires-clause-path : goal.mark_firing-requires-clause-path
mark_firing-requires-clause-path c = λ k p.
    let within : c.loop-place.place - 1 < length c.closure.inside.firings.items = omega (arith, c.len-place.ensures, c.closure.inside.firings.ok.0) in
    let at : slice_get c.args.closure.now.stage.done (c.loop-place.place - 1) ≡ Some c.index-placed.result.now =
    subst (λ (V : ClosureOf). slice_get V.stage.done (c.loop-place.place - 1) ≡ Some c.index-placed.result.now) c.closure.view_is
    (at_place c.closure.inside.firings.items (c.loop-place.place - 1) c.index-placed.result.now within c.index-placed.ensures) in
    omega (arith, path_within c.args.closure.now c.requires.closure c.index-placed.result.now (in_at c.args.closure.now.stage.done (c.loop-place.place - 1) c.index-placed.result.now at) k p, c.loop-place.invariant.arcs_len)

pub returns-clause-arcs : goal.returns-clause-arcs
returns-clause-arcs c = λ k.
    let z : c.loop-place.place ≡ 0 = omega arith in
    let h = subst (λ i. Supports c.args.closure.now.stage i c.loop-place.behind c.loop-place.arcs c.loop-place.firings.items) z c.loop-place.invariant in
    (h.arcs_are k, arc_marked c.args.closure.now.stage c.loop-place.behind c.loop-place.arcs c.loop-place.firings.items h k)

pub returns-clause-firings : goal.returns-clause-firings
returns-clause-firings c = λ i.
    let z : c.loop-place.place ≡ 0 = omega arith in
    let h = subst (λ i. Supports c.args.closure.now.stage i c.loop-place.behind c.loop-place.arcs c.loop-place.firings.items) z c.loop-place.invariant in
    (h.fired_are i, firing_marked c.args.closure.now.stage c.loop-place.behind c.loop-place.arcs c.loop-place.firings.items h i)

pub loop-place-preserved : goal.loop-place-preserved
loop-place-preserved c =
    let p = c.loop-place.place - 1 in
    let e : c.loop-place.place ≡ suc p = omega arith in
    let h = subst (λ n. Supports c.args.closure.now.stage n c.loop-place.behind c.loop-place.arcs c.loop-place.firings.items) e c.loop-place.invariant in
    let within : p < length c.closure.inside.firings.items = omega (arith, c.len-place.ensures, c.closure.inside.firings.ok.0) in
    let at : slice_get c.args.closure.now.stage.done p ≡ Some c.index-placed.result.now =
    subst (λ (V : ClosureOf). slice_get V.stage.done p ≡ Some c.index-placed.result.now) c.closure.view_is (at_place c.closure.inside.firings.items p c.index-placed.result.now within c.index-placed.ensures) in
    let unmet : c.index-placed.result.now.met ≡ false = sym (ap (λ (d : Done). d.met) c.placed.view_is) ∙ c.if-placed.false in
    let first = ap (λ (d : Done). d.first) c.placed.view_is in
    let step = supports_step c.args.closure.now.stage p c.index-placed.result.now at c.loop-place.behind c.loop-place.arcs c.loop-place.firings.items h unmet c.requires.closure.rules (laid c.args.closure.now c.requires.closure).laid
    c.mark_firing.new.marks (omega (arith, c.mark_firing.auto.marks)) c.mark_firing.result c.mark_firing.ensures.whether c.mark_firing.ensures.marked c.mark_firing.ensures.same in
    subst (λ n. Supports c.args.closure.now.stage p n c.mark_firing.new.marks (set c.loop-place.firings.items p c.mark_firing.result)) (sym first) step

pub loop-place-preserved-then-placed : goal.loop-place-preserved-then-placed
loop-place-preserved-then-placed c =
    let p = c.loop-place.place - 1 in
    let e : c.loop-place.place ≡ suc p = omega arith in
    let h = subst (λ n. Supports c.args.closure.now.stage n c.loop-place.behind c.loop-place.arcs c.loop-place.firings.items) e c.loop-place.invariant in
    let within : p < length c.closure.inside.firings.items = omega (arith, c.len-place.ensures, c.closure.inside.firings.ok.0) in
    let at : slice_get c.args.closure.now.stage.done p ≡ Some c.index-placed.result.now =
    subst (λ (V : ClosureOf). slice_get V.stage.done p ≡ Some c.index-placed.result.now) c.closure.view_is (at_place c.closure.inside.firings.items p c.index-placed.result.now within c.index-placed.ensures) in
    let met : c.index-placed.result.now.met ≡ true = sym (ap (λ (d : Done). d.met) c.placed.view_is) ∙ c.if-placed.true in
    supports_met c.args.closure.now.stage p c.index-placed.result.now at c.loop-place.behind c.loop-place.arcs c.loop-place.firings.items h met
