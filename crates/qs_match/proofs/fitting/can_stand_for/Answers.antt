use Rattle.std.proofs.Common.{◌∙◌, ◌∷◌, [], refl, sym, ap, subst}
use Rattle.qs_tree.specs.Cells.{tree_of, trees_of}
use Rattle.qs_pattern.specs.Patterns.{patterns, no_pattern, pattern_before}
use Rattle.qs_pattern.specs.declared.pattern.Pattern.{Pattern}
use Rattle.qs_pattern.proofs.PatternLemmas.{pattern-Node}
use Rattle.qs_match.specs.Fitting.{NeverStandsFor}
use Rattle.qs_match.proofs.Never.{node_kids}
use Rattle.qs_match.proofs.fitting.can_stand_for.Goals as goal

pub returns-then-can_be_root : goal.returns-then-can_be_root
returns-then-can_be_root c f =
    let e = ap (λ (p : Pattern). pattern_before p no_pattern) c.in-Node.is ∙ pattern-Node c.in-Node.head c.in-Node.kids no_pattern in
    let never = subst (λ ps. NeverStandsFor (patterns ps) (trees_of c.kids.result.cells.now)) c.deref.ensures.value (c.can_stand_for_all.ensures f) in
    subst (λ ps. NeverStandsFor ps (tree_of c.args.tree.cells.now ∷ [])) (sym e)
    (node_kids c.in-Node.head (patterns c.in-Node.kids.items) no_pattern (tree_of c.args.tree.cells.now) [] (tree_of c.args.tree.cells.now ∷ []) refl (trees_of c.kids.result.cells.now) c.kids.ensures never)
