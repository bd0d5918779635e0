-- What a substitution gives a variable, as it grows.
use Rattle.std.proofs.Common.{Bool, true, false, cond, ◌≡◌, inl, inr, List, [], ◌∷◌, ◌++◌, Some, None, refl, sym, ap, ◌∙◌, append_assoc}
use Rattle.std.proofs.lemmas.List.{map-append}
use Rattle.qs_pattern.specs.declared.variable.Var.{Var}
use Rattle.qs_pattern.specs.declared.subst.Value.{Value}
use Rattle.qs_pattern.specs.Variables.{same_var}
use Rattle.qs_pattern.specs.Substitutions.{value_of}
use Rattle.qs_tree.specs.Lists.{◌∈◌}
use Rattle.qs_pattern.specs.Substitutions.{Substitution, variables_of}
use Rattle.qs_pattern.proofs.VariableLemmas.{same_var-true, same_var-refl}
use Rattle.qs_match.specs.working.Tasks.{was_seen, new_ones, Extends}

module _ (v : Var) where
  -- a value that is there stays the value
  pub value_of-append : (s t : Substitution) (y : Value) → value_of s v ≡ Some y → value_of (s ++ t) v ≡ Some y
  value_of-append [] t y e = absurd cc
  value_of-append (p ∷ s) t y e = split (same_var p.0 v) (λ h. value_of-append s t y h) e
    where
      split : (b : Bool) → (value_of s v ≡ Some y → value_of (s ++ t) v ≡ Some y) → cond b (Some p.1) (value_of s v) ≡ Some y → cond b (Some p.1) (value_of (s ++ t) v) ≡ Some y
      split true below h = h
      split false below h = below h

  -- where there is none, what comes behind decides
  pub value_of-behind : (s t : Substitution) → value_of s v ≡ None → value_of (s ++ t) v ≡ value_of t v
  value_of-behind [] t e = refl
  value_of-behind (p ∷ s) t e = split (same_var p.0 v) (λ h. value_of-behind s t h) e
    where
      split : (b : Bool) → (value_of s v ≡ None → value_of (s ++ t) v ≡ value_of t v) → cond b (Some p.1) (value_of s v) ≡ None → cond b (Some p.1) (value_of (s ++ t) v) ≡ value_of t v
      split true below h = absurd cc
      split false below h = below h

  pub value_of-first : (x : Value) (s : Substitution) → value_of ((v, x) ∷ s) v ≡ Some x
  value_of-first x s = rw (same_var-refl v) refl

  pub was_seen-some : (s : Substitution) (y : Value) → value_of s v ≡ Some y → was_seen v (variables_of s) ≡ true
  was_seen-some [] y e = absurd cc
  was_seen-some (p ∷ s) y e = split (same_var p.0 v) (λ h. was_seen-some s y h) e
    where
      split : (b : Bool) → (value_of s v ≡ Some y → was_seen v (variables_of s) ≡ true) → cond b (Some p.1) (value_of s v) ≡ Some y → cond b true (was_seen v (variables_of s)) ≡ true
      split true below h = refl
      split false below h = below h

  pub was_seen-none : (s : Substitution) → value_of s v ≡ None → was_seen v (variables_of s) ≡ false
  was_seen-none [] e = refl
  was_seen-none (p ∷ s) e = split (same_var p.0 v) (λ h. was_seen-none s h) e
    where
      split : (b : Bool) → (value_of s v ≡ None → was_seen v (variables_of s) ≡ false) → cond b (Some p.1) (value_of s v) ≡ None → cond b true (was_seen v (variables_of s)) ≡ false
      split true below h = absurd cc
      split false below h = below h

  -- the pair that gives the value
  pub pair_of : (s : Substitution) (y : Value) → value_of s v ≡ Some y → (w : Var) × ((w, y) ∈ s) × (w.letter ≡ v.letter)
  pair_of [] y e = absurd cc
  pair_of (p ∷ s) y e = split (same_var p.0 v) refl (λ h. pair_of s y h) e
    where
      split : (b : Bool) → same_var p.0 v ≡ b → (value_of s v ≡ Some y → (w : Var) × ((w, y) ∈ s) × (w.letter ≡ v.letter))
          → cond b (Some p.1) (value_of s v) ≡ Some y → (w : Var) × ((w, y) ∈ (p ∷ s)) × (w.letter ≡ v.letter)
      split true t below h = let same : p.1 ≡ y = cc in (p.0, inl (ap (λ (z : Value). let q : Var × Value = (p.0, z) in q) (sym same)), ap (λ (u : Var). u.letter) (same_var-true p.0 v t))
      split false t below h = let r = below h in (r.0, inr r.1, r.2)

-- Extending a substitution by a value of a variable.
module _ (s r : Substitution) (v : Var) (vs : List Var) where
  -- a variable that has a value is no new one
  known_is : (y : Value) → value_of s v ≡ Some y → new_ones (variables_of s) (v ∷ vs) ≡ new_ones (variables_of s) vs
  known_is y e = rw (was_seen-some v s y e) refl

  new_is : value_of s v ≡ None → new_ones (variables_of s) (v ∷ vs) ≡ v ∷ new_ones (variables_of s ++ v ∷ []) vs
  new_is e = rw (was_seen-none v s e) refl

  pub known_from : (y : Value) → value_of s v ≡ Some y → Extends vs s r → Extends (v ∷ vs) s r
  known_from y e x = record { more = x.more; are = x.are; variables = x.variables ∙ sym (known_is y e); classes = x.classes }

  pub known_to : (y : Value) → value_of s v ≡ Some y → Extends (v ∷ vs) s r → Extends vs s r
  known_to y e x = record { more = x.more; are = x.are; variables = x.variables ∙ known_is y e; classes = x.classes }

  pub known_value : (y : Value) {us : List Var} → value_of s v ≡ Some y → Extends us s r → value_of r v ≡ Some y
  known_value y e x = ap (λ (t : Substitution). value_of t v) x.are ∙ value_of-append v s x.more y e

  pub new_from : (y : Value) → value_of s v ≡ None → Extends vs (s ++ (v, y) ∷ []) r → Extends (v ∷ vs) s r
  new_from y e x = record {
    more = (v, y) ∷ x.more;
    are = x.are ∙ append_assoc s ((v, y) ∷ []) x.more;
    variables = ap (λ us. v ∷ us) (x.variables ∙ ap (λ us. new_ones us vs) (map-append (λ (p : Var × Value). p.0) s ((v, y) ∷ []))) ∙ sym (new_is e);
    classes = x.classes;
  }

  pub new_value : (y : Value) → value_of s v ≡ None → Extends vs (s ++ (v, y) ∷ []) r → value_of r v ≡ Some y
  new_value y e x =
      ap (λ (t : Substitution). value_of t v) (x.are ∙ append_assoc s ((v, y) ∷ []) x.more) ∙ value_of-behind v s ((v, y) ∷ x.more) e ∙ value_of-first v y x.more

  -- the first of the new pairs
  first_pair : (more : Substitution) (us : List Var) → variables_of more ≡ v ∷ us → (y : Value) × (rest : Substitution) × (more ≡ (v, y) ∷ rest) × (variables_of rest ≡ us)
  first_pair [] us e = absurd cc
  first_pair (p ∷ more) us e =
      let f : p.0 ≡ v = cc in
      let g : variables_of more ≡ us = cc in
      (p.1, more, ap (λ (w : Var). let q : Var × Value = (w, p.1) in q ∷ more) f, g)

  -- the new value
  pub new_to : value_of s v ≡ None → Extends (v ∷ vs) s r → (y : Value) × (value_of r v ≡ Some y) × Extends vs (s ++ (v, y) ∷ []) r
  new_to e x =
      let f = first_pair x.more (new_ones (variables_of s ++ v ∷ []) vs) (x.variables ∙ new_is e) in
      let is : r ≡ s ++ ((v, f.0) ∷ f.1) = x.are ∙ ap (λ (t : Substitution). s ++ t) f.2 in (
        f.0,
        ap (λ (t : Substitution). value_of t v) is ∙ value_of-behind v s ((v, f.0) ∷ f.1) e ∙ value_of-first v f.0 f.1,
        record {
          more = f.1;
          are = is ∙ sym (append_assoc s ((v, f.0) ∷ []) f.1);
          variables = f.3 ∙ ap (λ us. new_ones us vs) (sym (map-append (λ (p : Var × Value). p.0) s ((v, f.0) ∷ [])));
          classes = x.classes;
        },
      )

-- the last pair decides where none before it does
pub value_of-last : (s : Substitution) (v w : Var) (x : Value) (b : Bool) → value_of s v ≡ None → same_var w v ≡ b → value_of (s ++ (w, x) ∷ []) v ≡ cond b (Some x) None
value_of-last s v w x b e f = value_of-behind v s ((w, x) ∷ []) e ∙ ap (λ c. cond c (Some x) None) f
