use Rattle.std.proofs.Common.{◌≡◌, ℕ, List, length, Some, slice_get, arith, sym, ◌∙◌, ap, subst}
use Rattle.std.proofs.lemmas.Result.{IfOk-weaker}
use Rattle.qs_tree.proofs.Decisions.{true_false}
use Rattle.qs_tree.proofs.Members.{at_place}
use Rattle.qs_pattern.specs.Patterns.{count}
use Rattle.qs_pattern.proofs.PatternLemmas.{count-patterns}
use Rattle.qs_graph.specs.Graphs.{IsPath, trees_on}
use Rattle.qs_firing.specs.Firings.{Firing}
use Rattle.qs_firing.proofs.Fired.{by_rule, fires-by_rule, same_match}
use Rattle.qs_firing.proofs.deciding.fires.Goals as goal
use Rattle.qs_firing.proofs.deciding.fires.Goals.{then-len-left-via-then-len-left, then-len-left-via-else-len-left+then-not-is_path}

pub returns-then-len-left : goal.returns-then-len-left
returns-then-len-left c =
    let rules = c.args.rules.now in
    let arcs = c.args.view.now in
    let f : Firing = record { rule = c.firing.inside.rule; path = c.firing.inside.path.items; values = c.firing.inside.subst } in
    let rule = c.in-Some.rule.now in
    let is : slice_get rules f.rule ≡ Some rule = at_place rules f.rule rule c.in-Some.ensures.lookup.3.0 c.in-Some.ensures.lookup.1 in
    let count_is = ap count c.left.ensures.value in (
      λ t. absurd cc,
      λ r. let by = by_rule rules arcs f c.args.firing.now c.firing.view_is rule is r in
          absurd (elim c.then-len-left.branch [
            | then-len-left-via-then-len-left w ↦ w.if-len-left.true (omega (arith, by.long, c.len.ensures, c.firing.inside.path.ok.0, count-patterns c.left.result.now, count_is))
            | then-len-left-via-else-len-left+then-not-is_path w ↦
                let here : (a : ℕ) × (b : ℕ) × IsPath arcs a w.deref.result.now b = subst (λ (ks : List ℕ). (a : ℕ) × (b : ℕ) × IsPath arcs a ks b) (sym w.deref.ensures.value) by.path in
                true_false w.if-not-is_path.true (w.is_path.ensures.1 here)
          ]),
    )

pub returns-then-not-branch : goal.returns-then-not-branch
returns-then-not-branch c =
    let rules = c.args.rules.now in
    let arcs = c.args.view.now in
    let f : Firing = record { rule = c.firing.inside.rule; path = c.firing.inside.path.items; values = c.firing.inside.subst } in
    let rule = c.in-Some.rule.now in
    let is : slice_get rules f.rule ≡ Some rule = at_place rules f.rule rule c.in-Some.ensures.lookup.3.0 c.in-Some.ensures.lookup.1 in
    let trees = c.view.ensures ∙ c.in_ok-trees.ensures ∙ ap (trees_on arcs) c.deref-2.ensures.value in (
      λ t. absurd cc,
      λ r. let by = by_rule rules arcs f c.args.firing.now c.firing.view_is rule is r in
          absurd (true_false c.if-not-branch.true (c.in_ok-is_match.ensures.1 (same_match rule.left _ (trees_on arcs f.path) _ f.values (sym c.left-2.ensures.value) (sym trees) by.matches))),
    )

pub returns : goal.returns
returns c =
    let rules = c.args.rules.now in
    let arcs = c.args.view.now in
    let f : Firing = record { rule = c.firing.inside.rule; path = c.firing.inside.path.items; values = c.firing.inside.subst } in
    let rule = c.in-Some.rule.now in
    let is : slice_get rules f.rule ≡ Some rule = at_place rules f.rule rule c.in-Some.ensures.lookup.3.0 c.in-Some.ensures.lookup.1 in
    let trees = c.view.ensures ∙ c.in_ok-trees.ensures ∙ ap (trees_on arcs) c.deref-2.ensures.value in
    let count_is = ap count c.left.ensures.value in
    let path : (a : ℕ) × (b : ℕ) × IsPath arcs a f.path b = subst (λ (ks : List ℕ). (a : ℕ) × (b : ℕ) × IsPath arcs a ks b) c.deref.ensures.value (c.is_path.ensures.0 c.if-not-is_path.false) in
    let long : length f.path ≡ count rule.left = omega (arith, c.if-len-left.false, c.len.ensures, c.firing.inside.path.ok.0, count-patterns c.left.result.now, count_is) in
    let matches = same_match _ rule.left _ (trees_on arcs f.path) f.values c.left-2.ensures.value trees (c.in_ok-is_match.ensures.0 c.if-not-branch.false) in
    IfOk-weaker c.is_allowed.result _ _
    (λ b h. (
      λ t. fires-by_rule rules arcs f c.args.firing.now c.firing.view_is rule is (record { path = path; long = long; matches = matches; holds = h.0 t }),
      λ r. h.1 (by_rule rules arcs f c.args.firing.now c.firing.view_is rule is r).holds,
    ))
    c.is_allowed.ensures
