use Rattle.std.proofs.Common.{sym, ap, ◌∙◌, subst}
use Rattle.std.proofs.lemmas.Result.{IfOk-weaker}
use Rattle.qs_pattern.specs.Patterns.{Patterns, patterns}
use Rattle.qs_pattern.specs.Substitutions.{Substitution}
use Rattle.qs_pattern.specs.Instances.{inst, IsCovered}
use Rattle.qs_firing.specs.Firings.{Firing}
use Rattle.qs_join.proofs.Building.{covered, builds}
use Rattle.qs_join.proofs.joining.built.Goals as goal

pub owned_instance-requires-clause-covered : goal.owned_instance-requires-clause-covered
owned_instance-requires-clause-covered c =
    let (arcs, x) = c.requires in
    let rule = ap (λ (f : Firing). f.rule) c.firing.view_is in
    let values = ap (λ (f : Firing). f.values) c.firing.view_is in
    subst (λ (s : Substitution). IsCovered s (patterns c.right.result.now)) (sym values)
    (subst (λ (ps : Patterns). IsCovered c.args.firing.now.values ps) (sym c.right.ensures.value)
    (covered c.args.rules.now arcs c.args.firing.now c.firing.inside.rule c.index-rules-firing.result x rule c.index-rules-firing.is c.right.ensures.accepted))

pub returns : goal.returns
returns c =
    let (arcs, x) = c.requires in
    let rule = ap (λ (f : Firing). f.rule) c.firing.view_is in
    let values = ap (λ (f : Firing). f.values) c.firing.view_is in
    let side = c.right.ensures.value in
    let is = builds c.args.rules.now arcs c.args.firing.now c.firing.inside.rule c.index-rules-firing.result x rule c.index-rules-firing.is in
    IfOk-weaker c.owned_instance.result _ _ (λ v h. h ∙ (λ i. inst (values i) (side i)) ∙ sym is) c.owned_instance.ensures
