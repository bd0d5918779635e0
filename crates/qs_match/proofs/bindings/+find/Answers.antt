use Rattle.std.proofs.Common.{true, false, [], ◌∷◌, sym, ap, ◌∙◌}
use Rattle.qs_pattern.specs.Substitutions.{value_of}
use Rattle.qs_pattern.specs.Substitutions.{Substitution}
use Rattle.qs_match.specs.working.Bindings.{value_of_ref, substitution_of}
use Rattle.qs_match.proofs.Variants.{substitution-More}
use Rattle.qs_match.proofs.Values.{value_of-append, value_of-last}
use Rattle.qs_match.proofs.bindings.+find.Goals as goal

pub returns-in-Some : goal.returns-in-Some
returns-in-Some t c =
    let e = ap substitution_of c.in-More.is ∙ substitution-More c.in-More.last c.in-More.value c.in-More.earlier in
    sym (ap (λ (s : Substitution). value_of s c.args.var) e ∙ value_of-append c.args.var (substitution_of c.in-More.earlier.now) ((c.in-More.last, value_of_ref c.in-More.value) ∷ []) (value_of_ref c.in-Some.found) (sym c.in-Some.ensures))

pub returns-then-eq : goal.returns-then-eq
returns-then-eq t c =
    let e = ap substitution_of c.in-More.is ∙ substitution-More c.in-More.last c.in-More.value c.in-More.earlier in
    sym (ap (λ (s : Substitution). value_of s c.args.var) e ∙ value_of-last (substitution_of c.in-More.earlier.now) c.args.var c.in-More.last (value_of_ref c.in-More.value) true (sym c.in-None.ensures) (sym c.eq.ensures ∙ c.if-eq.true))

pub returns-else-eq : goal.returns-else-eq
returns-else-eq t c =
    let e = ap substitution_of c.in-More.is ∙ substitution-More c.in-More.last c.in-More.value c.in-More.earlier in
    sym (ap (λ (s : Substitution). value_of s c.args.var) e ∙ value_of-last (substitution_of c.in-More.earlier.now) c.args.var c.in-More.last (value_of_ref c.in-More.value) false (sym c.in-None.ensures) (sym c.eq.ensures ∙ c.if-eq.false))
