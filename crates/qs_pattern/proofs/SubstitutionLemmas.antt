-- One more variable at the end of a substitution, and the classes of its values.
use Rattle.std.proofs.Common.{◌≡◌, Bool, true, false, if◌then◌else◌, List, [], ◌∷◌, ◌++◌, None, Some, inl, inr, refl, sym, ap, ◌∙◌, subst, arith}
use Rattle.std.proofs.lemmas.Bool.Decides.{nat_tests}
use Rattle.qs_tree.specs.Lists.{◌∈◌}
use Rattle.qs_pattern.specs.declared.variable.Var.{Var}
use Rattle.qs_pattern.specs.declared.subst.Value.{Value}
use Rattle.qs_pattern.specs.Variables.{same_var}
use Rattle.qs_pattern.specs.Substitutions.{value_of, IsOfClass, IsSubstitution}

pub same_var-comm : (a b : Var) → same_var a b ≡ same_var b a
same_var-comm a b = grind (arith, nat_tests)

value_of-push : (ps : List (Var × Value)) (v q : Var) (w : Value) → value_of ps q ≡ None → same_var v q ≡ false → value_of (ps ++ (v, w) ∷ []) q ≡ None
value_of-push [] v q w h n = ap (λ b. if b then Some w else None) n
value_of-push (p ∷ ps) v q w h n = by (same_var p.0 q) h (λ k. value_of-push ps v q w k n)
  where
    by : (b : Bool) → (if b then Some p.1 else value_of ps q) ≡ None → (value_of ps q ≡ None → value_of (ps ++ (v, w) ∷ []) q ≡ None)
        → (if b then Some p.1 else value_of (ps ++ (v, w) ∷ []) q) ≡ None
    by true e k = cc
    by false e k = k e

-- where the first pair is not of the variable, it has no value
pub absent_parts : (p : Var × Value) (ps : List (Var × Value)) (v : Var) → value_of (p ∷ ps) v ≡ None → (same_var p.0 v ≡ false) × (value_of ps v ≡ None)
absent_parts p ps v h = by (same_var p.0 v) h
  where
    by : (b : Bool) → (if b then Some p.1 else value_of ps v) ≡ None → (b ≡ false) × (value_of ps v ≡ None)
    by true e = cc
    by false e = (refl, e)

pub IsSubstitution-push : (ps : List (Var × Value)) (v : Var) (w : Value) → IsSubstitution ps → value_of ps v ≡ None → IsOfClass (v, w) → IsSubstitution (ps ++ (v, w) ∷ [])
IsSubstitution-push [] v w h n f = (f, refl, tt)
IsSubstitution-push (p ∷ ps) v w h n f =
    let parts = absent_parts p ps v n in
    (h.0, value_of-push ps v p.0 w h.1 (same_var-comm v p.0 ∙ parts.0), IsSubstitution-push ps v w h.2 parts.1 f)

-- each value of a substitution is of its variable's class
pub substitution_class : (s : List (Var × Value)) → IsSubstitution s → (p : Var × Value) → p ∈ s → IsOfClass p
substitution_class [] i p m = absurd m
substitution_class (q ∷ s) i p (inl e) = subst IsOfClass (sym e) i.0
substitution_class (q ∷ s) i p (inr m) = substitution_class s i.2 p m
