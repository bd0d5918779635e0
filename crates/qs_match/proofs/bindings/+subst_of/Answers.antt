use Rattle.std.proofs.Common.{rules, sym, ap, ◌∙◌, subst}
use Rattle.qs_pattern.specs.Substitutions.{value_of, IsOfClass}
use Rattle.qs_match.specs.declared.bindings.Bindings.TheFolds.{the_lemmas}
use Rattle.qs_match.specs.working.Bindings.{substitution_of}
use Rattle.qs_match.proofs.Variants.{substitution-More}
use Rattle.qs_match.proofs.Substitutions.{substitution_ends}
use Rattle.qs_match.proofs.bindings.+subst_of.Goals as goal

pub subst_of-requires : goal.subst_of-requires
subst_of-requires t c = (search (rules, the_lemmas), (substitution_ends _ _ _ _ (ap substitution_of c.in-More.is ∙ substitution-More c.in-More.var c.in-More.value c.in-More.earlier) c.requires).earlier)

pub add-requires-clause-absent : goal.add-requires-clause-absent
add-requires-clause-absent t c =
    let ends = substitution_ends _ _ _ _ (ap substitution_of c.in-More.is ∙ substitution-More c.in-More.var c.in-More.value c.in-More.earlier) c.requires in
    ap (λ s. value_of s c.in-More.var) c.in_ok-subst-in-More.ensures ∙ ends.absent

pub add-requires-clause-class : goal.add-requires-clause-class
add-requires-clause-class t c =
    let ends = substitution_ends _ _ _ _ (ap substitution_of c.in-More.is ∙ substitution-More c.in-More.var c.in-More.value c.in-More.earlier) c.requires in
    subst (λ x. IsOfClass (c.in-More.var, x)) (sym c.in_ok-owned-in-More.ensures) ends.class
