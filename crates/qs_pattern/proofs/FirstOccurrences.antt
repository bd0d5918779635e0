-- One more variable behind others: it is listed where it is new.
use Rattle.std.proofs.Common.{◌≡◌, ℕ, ◌<◌, ◌+◌, Bool, true, false, List, [], ◌∷◌, ◌++◌, length, take, get_or, append-nil, sym, ◌∙◌, ap, refl}
use Rattle.std.specs.Prelude.{not, ◌||◌, if◌then◌else◌}
use Rattle.std.specs.List.{filter, list_any}
use Rattle.std.proofs.lemmas.List.{take_more}
use Rattle.qs_pattern.specs.declared.variable.Var.{Var}
use Rattle.qs_pattern.specs.Variables.{same_var, firsts}
use Rattle.qs_pattern.proofs.VariableLemmas.{same_var-true}

-- whether the variable is among these
abbrev pub is_among : Var → List Var → Bool
is_among v vs = list_any (λ w. same_var w v) vs

-- the list with the variable behind it where it is new
abbrev pub with_new : List Var → Var → List Var
with_new vs v = if is_among v vs then vs else vs ++ v ∷ []

filter-last : (p : Var → Bool) (vs : List Var) (v : Var) → filter p (vs ++ v ∷ []) ≡ filter p vs ++ (if p v then v ∷ [] else [])
filter-last p [] v = refl
filter-last p (w ∷ vs) v = tested (p w) (filter-last p vs v)
  where
    tested : (b : Bool) → filter p (vs ++ v ∷ []) ≡ filter p vs ++ (if p v then v ∷ [] else [])
        → (if b then w ∷ filter p (vs ++ v ∷ []) else filter p (vs ++ v ∷ [])) ≡ (if b then w ∷ filter p vs else filter p vs) ++ (if p v then v ∷ [] else [])
    tested true e = ap (λ us. w ∷ us) e
    tested false e = e

-- what is told apart from v is no reason for v to be among the others
among-others : (x v : Var) → same_var x v ≡ false → (vs : List Var) → is_among v (filter (λ w. not (same_var x w)) vs) ≡ is_among v vs
among-others x v n [] = refl
among-others x v n (w ∷ vs) = tested (same_var x w) refl (among-others x v n vs)
  where
    tested : (b : Bool) → same_var x w ≡ b → is_among v (filter (λ w. not (same_var x w)) vs) ≡ is_among v vs
        → is_among v (if not b then w ∷ filter (λ w. not (same_var x w)) vs else filter (λ w. not (same_var x w)) vs) ≡ (same_var w v || is_among v vs)
    tested true e h =
        let same : same_var w v ≡ false = ap (λ u. same_var u v) (sym (same_var-true x w e)) ∙ n in
        h ∙ ap (λ b. b || is_among v vs) (sym same)
    tested false e h = ap (λ b. same_var w v || b) h

abbrev others : Var → List Var → List Var
others x us = filter (λ w. not (same_var x w)) us

-- one more where x is the first: it is x, or another
first_same : (x v : Var) (us : List Var) → same_var x v ≡ true → x ∷ others x (with_new us v) ≡ with_new (x ∷ others x us) v
first_same x v us e = tested (is_among v us) ∙ sym (ap (λ b. if b || is_among v (others x us) then x ∷ others x us else (x ∷ others x us) ++ v ∷ []) e)
  where
    tested : (b : Bool) → x ∷ others x (if b then us else us ++ v ∷ []) ≡ x ∷ others x us
    tested true = refl
    tested false = ap (λ ws. x ∷ ws) (filter-last (λ w. not (same_var x w)) us v ∙ ap (λ b. others x us ++ (if not b then v ∷ [] else [])) e ∙ append-nil (others x us))

first_other : (x v : Var) (us : List Var) → same_var x v ≡ false → x ∷ others x (with_new us v) ≡ with_new (x ∷ others x us) v
first_other x v us e =
    tested (is_among v us)
    ∙ sym (ap (λ b. if b || is_among v (others x us) then x ∷ others x us else (x ∷ others x us) ++ v ∷ []) e
    ∙ ap (λ b. if b then x ∷ others x us else (x ∷ others x us) ++ v ∷ []) (among-others x v e us))
  where
    tested : (b : Bool) → x ∷ others x (if b then us else us ++ v ∷ []) ≡ (if b then x ∷ others x us else (x ∷ others x us) ++ v ∷ [])
    tested true = refl
    tested false = ap (λ ws. x ∷ ws) (filter-last (λ w. not (same_var x w)) us v ∙ ap (λ b. others x us ++ (if not b then v ∷ [] else [])) e)

pub firsts-last : (vs : List Var) (v : Var) → firsts (vs ++ v ∷ []) ≡ with_new (firsts vs) v
firsts-last [] v = refl
firsts-last (x ∷ vs) v = ap (λ us. x ∷ others x us) (firsts-last vs v) ∙ tested (same_var x v) refl
  where
    tested : (b : Bool) → same_var x v ≡ b → x ∷ others x (with_new (firsts vs) v) ≡ with_new (firsts (x ∷ vs)) v
    tested true e = first_same x v (firsts vs) e
    tested false e = first_other x v (firsts vs) e

-- the first occurrences of one variable more
pub firsts-more : (vs : List Var) (n : ℕ) (v : Var) → n < length vs → v ≡ get_or vs n v → firsts (take (n + 1) vs) ≡ with_new (firsts (take n vs)) v
firsts-more vs n v h e = ap firsts (take_more vs n v h) ∙ ap (λ w. firsts (take n vs ++ w ∷ [])) (sym e) ∙ firsts-last (take n vs) v
