-- Variables, each once, and what substitutions give them.
use Rattle.std.proofs.Common.{◌≡◌, Bool, true, false, List, [], ◌∷◌, map, refl, sym, ◌∙◌, ap, subst, inl, inr, Some, unwrap_or, eqb, eqb-true, eq-eqb}
use Rattle.std.specs.Prelude.{◌&&◌, not, if◌then◌else◌}
use Rattle.std.specs.List.{filter}
use Rattle.qs_tree.specs.Lists.{◌∈◌}
use Rattle.qs_pattern.specs.declared.variable.Var.{Var}
use Rattle.qs_pattern.specs.contracts.variable.Var as var
use Rattle.qs_pattern.specs.declared.subst.Value.{Value}
use Rattle.qs_pattern.specs.declared.subst.Value.TheVariants as value
use Rattle.qs_pattern.specs.Variables.{same_var, firsts}
use Rattle.qs_pattern.specs.Substitutions.{Substitution, variables_of, value_of, IsOfClass}
use Rattle.std.proofs.lemmas.Bool.{not-true}
use Rattle.qs_tree.proofs.Decisions.{true_false}
use Rattle.qs_tree.proofs.Members.{from_filter, in_filter, map-same}

pub same_var-true : (v w : Var) → same_var v w ≡ true → v ≡ w
same_var-true v w e = split (eqb v.letter w.letter) refl (eqb v.number w.number) refl e
  where
    split : (a : Bool) → eqb v.letter w.letter ≡ a → (b : Bool) → eqb v.number w.number ≡ b → (a && b) ≡ true → v ≡ w
    split true p true q h = let l = eqb-true v.letter w.letter p in let n = eqb-true v.number w.number q in var.the_row.coded.inj v w (rw (l, n) refl)
    split true p false q h = absurd cc
    split false p true q h = absurd cc
    split false p false q h = absurd cc

pub same_var-refl : (v : Var) → same_var v v ≡ true
same_var-refl v = λ i. eq-eqb v.letter v.letter refl i && eq-eqb v.number v.number refl i

-- variables that are told apart aren't equal
pub same_var-false : (v w : Var) → same_var v w ≡ false → v ≡ w → ⊥
same_var-false v w f e = true_false f (ap (same_var v) (sym e) ∙ same_var-refl v)

same_var-turned : (v w : Var) → same_var v w ≡ false → same_var w v ≡ false
same_var-turned v w f = tested (same_var w v) refl
  where
    tested : (b : Bool) → same_var w v ≡ b → b ≡ false
    tested true e = absurd (same_var-false v w f (sym (same_var-true w v e)))
    tested false e = refl

-- no variable of the list stands twice
abbrev pub AreApart : List Var → Type 0
AreApart [] = Unit {0}
AreApart (v ∷ vs) = ((w : Var) → w ∈ vs → same_var v w ≡ false) × AreApart vs

filter-apart : (p : Var → Bool) (vs : List Var) → AreApart vs → AreApart (filter p vs)
filter-apart p [] n = tt
filter-apart p (v ∷ vs) n = tested (p v) (filter-apart p vs n.1)
  where
    tested : (b : Bool) → AreApart (filter p vs) → AreApart (if b then v ∷ filter p vs else filter p vs)
    tested true behind = ((λ w i. n.0 w (from_filter p vs w i).1), behind)
    tested false behind = behind

pub firsts-apart : (vs : List Var) → AreApart (firsts vs)
firsts-apart [] = tt
firsts-apart (v ∷ vs) =
    ((λ w i. not-true (same_var v w) (from_filter (λ w. not (same_var v w)) (firsts vs) w i).0), filter-apart (λ w. not (same_var v w)) (firsts vs) (firsts-apart vs))

pub from_firsts : (vs : List Var) (v : Var) → v ∈ firsts vs → v ∈ vs
from_firsts [] v i = i
from_firsts (w ∷ vs) v (inl e) = inl e
from_firsts (w ∷ vs) v (inr i) = inr (from_firsts vs v (from_filter (λ x. not (same_var w x)) (firsts vs) v i).1)

pub in_firsts : (vs : List Var) (v : Var) → v ∈ vs → v ∈ firsts vs
in_firsts [] v i = i
in_firsts (w ∷ vs) v (inl e) = inl e
in_firsts (w ∷ vs) v (inr i) = tested (same_var w v) refl (in_firsts vs v i)
  where
    tested : (b : Bool) → same_var w v ≡ b → v ∈ firsts vs → v ∈ firsts (w ∷ vs)
    tested true e j = inl (sym (same_var-true w v e))
    tested false e j = inr (in_filter (λ x. not (same_var w x)) (firsts vs) v (ap not e) j)

module _ (w : Var) (x : Value) (s : Substitution) (v : Var) where
  pub value_of-here : same_var w v ≡ true → value_of ((w, x) ∷ s) v ≡ Some x
  value_of-here e = ap (λ b. if b then Some x else value_of s v) e

  pub value_of-behind : same_var w v ≡ false → value_of ((w, x) ∷ s) v ≡ value_of s v
  value_of-behind e = ap (λ b. if b then Some x else value_of s v) e

-- the substitution has a value of its class for the variable
pub record HasValue (s : Substitution) (v : Var) : Type 0 where
  pub value : Value
  pub is : value_of s v ≡ Some value
  pub class : IsOfClass (v, value)

pub has_value : (s : Substitution) (v : Var) → v ∈ variables_of s → ((p : Var × Value) → p ∈ s → IsOfClass p) → HasValue s v
has_value [] v i classes = absurd i
has_value ((w, x) ∷ s) v i classes = tested (same_var w v) refl i (λ j. has_value s v j (λ p k. classes p (inr k)))
  where
    tested : (b : Bool) → same_var w v ≡ b → v ∈ (w ∷ variables_of s) → (v ∈ variables_of s → HasValue s v) → HasValue ((w, x) ∷ s) v
    tested true e j behind = record { value = x; is = value_of-here w x s v e; class = subst (λ u. IsOfClass (u, x)) (same_var-true w v e) (classes (w, x) (inl refl)) }
    tested false e (inl d) behind = absurd (same_var-false w v e (sym d))
    tested false e (inr j) behind = let h = behind j in record { value = h.value; is = value_of-behind w x s v e ∙ h.is; class = h.class }

-- A variable's value, and the label 0 where it has none.
abbrev pub value_or_zero : Substitution → Var → Value
value_or_zero s v = unwrap_or (value_of s v) (value.Label (record { 0 = 0 }))

-- these variables with their values
abbrev pub valued : Substitution → List Var → Substitution
valued s vs = map (λ v. (v, value_or_zero s v)) vs

-- a substitution whose variables are apart is its variables with their values
pub valued-all : (s : Substitution) → AreApart (variables_of s) → s ≡ valued s (variables_of s)
valued-all [] n = refl
valued-all ((w, x) ∷ s) n =
    let e : value_or_zero ((w, x) ∷ s) w ≡ x = ap (λ o. unwrap_or o (value.Label (record { 0 = 0 }))) (value_of-here w x s w (same_var-refl w)) in
    let d : valued s (variables_of s) ≡ valued ((w, x) ∷ s) (variables_of s) =
    map-same (λ v. (v, value_or_zero s v)) (λ v. (v, value_or_zero ((w, x) ∷ s) v)) (variables_of s)
    (λ v i. ap (λ o. (v, unwrap_or o (value.Label (record { 0 = 0 })))) (sym (value_of-behind w x s v (n.0 v i)))) in
    let r : s ≡ valued s (variables_of s) = valued-all s n.1 in
    λ i. (w, sym e i) ∷ (r ∙ d) i

-- a listed variable has the value that it had
pub value_of-valued : (s : Substitution) (v : Var) (vs : List Var) → v ∈ vs → value_of (valued s vs) v ≡ Some (value_or_zero s v)
value_of-valued s v [] i = absurd i
value_of-valued s v (w ∷ vs) i = tested (same_var w v) refl i (value_of-valued s v vs)
  where
    tested : (b : Bool) → same_var w v ≡ b → v ∈ (w ∷ vs) → (v ∈ vs → value_of (valued s vs) v ≡ Some (value_or_zero s v)) → value_of (valued s (w ∷ vs)) v ≡ Some (value_or_zero s v)
    tested true e j behind = value_of-here w (value_or_zero s w) (valued s vs) v e ∙ ap (λ u. Some (value_or_zero s u)) (same_var-true w v e)
    tested false e (inl d) behind = absurd (same_var-false w v e (sym d))
    tested false e (inr j) behind = value_of-behind w (value_or_zero s w) (valued s vs) v e ∙ behind j
