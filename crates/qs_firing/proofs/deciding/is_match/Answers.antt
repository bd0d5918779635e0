use Rattle.std.proofs.Common.{◌≡◌, ◌∙◌, sym, ap}
use Rattle.qs_tree.specs.Cells.{trees_of}
use Rattle.qs_pattern.specs.Patterns.{patterns}
use Rattle.qs_pattern.specs.Instances.{variables, inst}
use Rattle.qs_pattern.specs.Substitutions.{variables_of}
use Rattle.qs_pattern.proofs.SubstitutionLemmas.{substitution_class}
use Rattle.qs_pattern.proofs.MatchLemmas.{values_known}
use Rattle.qs_pattern.proofs.Covering.{all_covered}
use Rattle.qs_firing.proofs.deciding.is_match.Goals as goal

pub forest_of-requires : goal.forest_of-requires
forest_of-requires c =
    let s = c.args.subst.now in
    let e : variables_of s ≡ variables (patterns c.args.side.now) = ap variables_of (sym c.pairs.ensures.value) ∙ c.in_ok-has_variables.ensures.0 c.if-not-branch.false in
    all_covered s (patterns c.args.side.now) c.requires (values_known (patterns c.args.side.now) s e (substitution_class s c.pairs.ensures.substitution))

pub returns : goal.returns
returns c =
    let s = c.args.subst.now in
    let e : variables_of s ≡ variables (patterns c.args.side.now) = ap variables_of (sym c.pairs.ensures.value) ∙ c.in_ok-has_variables.ensures.0 c.if-not-branch.false in
    let is : trees_of c.view.result.cells.now ≡ inst s (patterns c.args.side.now) = c.view.ensures ∙ c.in_ok-instance.ensures in (
      λ t. record { variables = e; classes = substitution_class s c.pairs.ensures.substitution; instance = sym is ∙ c.same_forest.ensures.0 t },
      λ m. c.same_forest.ensures.1 (is ∙ m.instance),
    )
