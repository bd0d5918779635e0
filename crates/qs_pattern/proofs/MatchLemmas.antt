-- The lengths of its forests determine a match of a side with given trees.
use Rattle.std.proofs.Common.{◌≡◌, ℕ, Bool, true, false, List, [], ◌∷◌, refl, sym, ◌∙◌, ap, subst, inl, inr, arith, Some, unwrap_or, append-nil}
use Rattle.std.specs.List.{cons_option}
use Rattle.qs_tree.specs.Lists.{◌∈◌}
use Rattle.qs_tree.specs.Trees.{Tree}
use Rattle.qs_tree.proofs.Members.{map-same}
use Rattle.qs_pattern.specs.declared.variable.Var.{Var}
use Rattle.qs_pattern.specs.declared.subst.Value.{Value}
use Rattle.qs_pattern.specs.declared.subst.Value.TheVariants as value
use Rattle.qs_pattern.specs.Variables.{same_var}
use Rattle.qs_pattern.specs.Patterns.{Patterns, variables_in, AreInClass}
use Rattle.qs_pattern.specs.Substitutions.{Substitution, variables_of, value_of, IsOfClass, forest_length, forest_lengths}
use Rattle.qs_pattern.specs.Instances.{inst, variables, IsMatch}
use Rattle.qs_pattern.proofs.VariableLemmas.{HasValue, has_value, valued, valued-all, value_or_zero, value_of-valued, value_of-here, value_of-behind, AreApart, firsts-apart, from_firsts, in_firsts}
use Rattle.qs_pattern.proofs.Reading.{read, read-is, length_in, length_of}

-- each variable of a side has a value in a substitution of exactly the side's variables
pub values_known : (side : Patterns) (s : Substitution) → variables_of s ≡ variables side → ((p : Var × Value) → p ∈ s → IsOfClass p) → (v : Var) → v ∈ variables_in side → HasValue s v
values_known side s e classes v i = has_value s v (subst (λ vs. v ∈ vs) (sym e) (in_firsts (variables_in side) v i)) classes

-- so each has one in a match
pub matched_value : (side : Patterns) (ts : List Tree) (s : Substitution) → IsMatch side ts s → (v : Var) → v ∈ variables_in side → HasValue s v
matched_value side ts s m = values_known side s m.variables m.classes

-- the values of a side's variables, from the trees and the lengths of its forests
abbrev pub values_from : Patterns → (Var → ℕ) → List Tree → Substitution
values_from side n ts = valued (read side n ts) (variables side)

pub match-values : (side : Patterns) → AreInClass side → (ts : List Tree) (s : Substitution) → IsMatch side ts s → s ≡ values_from side (length_of s) ts
match-values side c ts s m =
    let has : read side (length_of s) ts ≡ valued s (variables_in side) =
    ap (read side (length_of s)) (sym m.instance ∙ sym (append-nil (inst s side))) ∙ read-is s side c (matched_value side ts s m) [] in
    valued-all s (subst AreApart (sym m.variables) (firsts-apart (variables_in side)))
    ∙ ap (valued s) m.variables
    ∙ map-same (λ v. (v, value_or_zero s v)) (λ v. (v, value_or_zero (read side (length_of s) ts) v)) (variables side)
    (λ v i.
    ap (λ o. (v, unwrap_or o (value.Label (record { 0 = 0 }))))
    (sym (value_of-valued s v (variables_in side) (from_firsts (variables_in side) v i)) ∙ ap (λ (r : Substitution). value_of r v) (sym has)))

first_lengths : (v : Var) (x y : Value) (A B : List ℕ) → IsOfClass (v, x) → IsOfClass (v, y) → cons_option (forest_length (v, x)) A ≡ cons_option (forest_length (v, y)) B
    → (length_in (Some x) ≡ length_in (Some y)) × (A ≡ B)
first_lengths v (value.Label l) (value.Label m) A B c d e = (refl, e)
first_lengths v (value.Label l) (value.Tree t) A B c d e = (refl, e)
first_lengths v (value.Label l) (value.Forest ts) A B c d e = absurd (omega arith)
first_lengths v (value.Tree t) (value.Label m) A B c d e = (refl, e)
first_lengths v (value.Tree t) (value.Tree u) A B c d e = (refl, e)
first_lengths v (value.Tree t) (value.Forest ts) A B c d e = absurd (omega arith)
first_lengths v (value.Forest ts) (value.Label m) A B c d e = absurd (omega arith)
first_lengths v (value.Forest ts) (value.Tree u) A B c d e = absurd (omega arith)
first_lengths v (value.Forest ts) (value.Forest us) A B c d e = (cc, cc)

-- equal variables and equal lengths in order: each variable's length is equal
same_lengths : (s r : Substitution) → variables_of s ≡ variables_of r → ((p : Var × Value) → p ∈ s → IsOfClass p) → ((p : Var × Value) → p ∈ r → IsOfClass p)
    → forest_lengths s ≡ forest_lengths r → (v : Var) → length_of s v ≡ length_of r v
same_lengths [] [] e c d l v = refl
same_lengths [] (q ∷ r) e c d l v = absurd cc
same_lengths (p ∷ s) [] e c d l v = absurd cc
same_lengths ((w, x) ∷ s) ((u, y) ∷ r) e c d l v =
    let same : w ≡ u = cc in
    let rest : variables_of s ≡ variables_of r = cc in
    let cy : IsOfClass (w, y) = subst (λ z. IsOfClass (z, y)) (sym same) (d (u, y) (inl refl)) in
    let l' : cons_option (forest_length (w, x)) (forest_lengths s) ≡ cons_option (forest_length (w, y)) (forest_lengths r) =
    l ∙ ap (λ z. cons_option (forest_length (z, y)) (forest_lengths r)) (sym same) in
    let (h, k) = first_lengths w x y (forest_lengths s) (forest_lengths r) (c (w, x) (inl refl)) cy l' in
    let behind = same_lengths s r rest (λ p i. c p (inr i)) (λ p i. d p (inr i)) k v in
    tested (same_var w v) refl same h behind
  where
    tested : (b : Bool) → same_var w v ≡ b → w ≡ u → length_in (Some x) ≡ length_in (Some y) → length_of s v ≡ length_of r v → length_of ((w, x) ∷ s) v ≡ length_of ((u, y) ∷ r) v
    tested true e same h behind =
        ap length_in (value_of-here w x s v e) ∙ h ∙ ap length_in (sym (value_of-here u y r v (ap (λ z. same_var z v) (sym same) ∙ e)))
    tested false e same h behind =
        ap length_in (value_of-behind w x s v e) ∙ behind ∙ ap length_in (sym (value_of-behind u y r v (ap (λ z. same_var z v) (sym same) ∙ e)))

-- The lengths of the forests tell two matches of one side and the same trees apart.
pub lengths_tell : (side : Patterns) (ts : List Tree) (s r : Substitution) → AreInClass side → IsMatch side ts s → IsMatch side ts r → forest_lengths s ≡ forest_lengths r → s ≡ r
lengths_tell side ts s r c m n e =
    let same = same_lengths s r (m.variables ∙ sym n.variables) m.classes n.classes e in
    match-values side c ts s m ∙ (λ i. values_from side (λ v. same v i) ts) ∙ sym (match-values side c ts r n)
