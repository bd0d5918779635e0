-- A substitution with one more variable at its end.
use Rattle.std.proofs.Common.{false, cond, ◌≡◌, inl, inr, [], ◌∷◌, ◌++◌, Some, None, refl, sym, ap, ◌∙◌, subst}
use Rattle.qs_pattern.specs.declared.variable.Var.{Var}
use Rattle.qs_pattern.specs.declared.subst.Value.{Value}
use Rattle.qs_pattern.specs.Variables.{same_var}
use Rattle.qs_pattern.specs.Substitutions.{Substitution, value_of, IsOfClass, IsSubstitution}
use Rattle.qs_pattern.proofs.SubstitutionLemmas.{same_var-comm, absent_parts, IsSubstitution-push}
use Rattle.qs_match.specs.working.Tasks.{Binds}

first_not : (p : Var × Value) (s : Substitution) (v : Var) → same_var p.0 v ≡ false → value_of s v ≡ None → value_of (p ∷ s) v ≡ None
first_not p s v e n = ap (λ b. cond b (Some p.1) (value_of s v)) e ∙ n

none_of_both : (s t : Substitution) (v : Var) → value_of (s ++ t) v ≡ None → (value_of s v ≡ None) × (value_of t v ≡ None)
none_of_both [] t v e = (refl, e)
none_of_both (p ∷ s) t v e = let n = absent_parts p (s ++ t) v e in let r = none_of_both s t v n.1 in (first_not p s v n.0 r.0, r.1)

-- a substitution and its last pair
pub record EndsWith (s : Substitution) (v : Var) (x : Value) : Type 0 where
  pub earlier : IsSubstitution s
  pub absent : value_of s v ≡ None
  pub class : IsOfClass (v, x)

substitution_last : (s : Substitution) (v : Var) (x : Value) → IsSubstitution (s ++ (v, x) ∷ []) → EndsWith s v x
substitution_last [] v x i = record { earlier = tt; absent = refl; class = i.0 }
substitution_last (p ∷ s) v x i =
    let last = substitution_last s v x i.2 in
    let none = none_of_both s ((v, x) ∷ []) p.0 i.1 in
    let differs = absent_parts (v, x) [] p.0 none.1 in
    record { earlier = (i.0, none.0, last.earlier); absent = first_not p s v (same_var-comm p.0 v ∙ differs.0) last.absent; class = last.class }

pub substitution_ends : (all s : Substitution) (v : Var) (x : Value) → all ≡ s ++ (v, x) ∷ [] → IsSubstitution all → EndsWith s v x
substitution_ends all s v x e i = substitution_last s v x (subst IsSubstitution e i)

pub binds_substitution : (s t : Substitution) (v : Var) (x : Value) → Binds s v x t → IsSubstitution s → IsOfClass (v, x) → IsSubstitution t
binds_substitution s t v x (inl b) i c = subst IsSubstitution (sym b.1) i
binds_substitution s t v x (inr b) i c = subst IsSubstitution (sym b.1) (IsSubstitution-push s v x i b.0 c)
