-- Variables among others, and among the cells in front of a place.
use Rattle.std.proofs.Common.{◌≡◌, ℕ, ◌+◌, ◌<◌, ◌≤◌, inl, inr, ⊎_elim, Bool, true, false, List, [], ◌∷◌, ◌++◌, length, take, get_or, refl, sym, ◌∙◌, ap, subst, append_assoc, append-nil, arith, length-append}
use Rattle.std.specs.Prelude.{◌||◌, if◌then◌else◌}
use Rattle.std.proofs.lemmas.Bool.{false_from_ne_true}
use Rattle.std.proofs.lemmas.List.{take_more}
use Rattle.qs_tree.specs.Lists.{◌∈◌}
use Rattle.qs_tree.proofs.Members.{from_append}
use Rattle.qs_pattern.specs.declared.variable.Var.{Var}
use Rattle.qs_pattern.specs.declared.pattern.Head.{Head}
use Rattle.qs_pattern.specs.declared.pattern.Head.TheVariants as head
use Rattle.qs_pattern.specs.Variables.{same_var, firsts}
use Rattle.qs_pattern.specs.Patterns.{head_variables}
use Rattle.qs_pattern.proofs.VariableLemmas.{same_var-true, same_var-refl}
use Rattle.qs_pattern.proofs.FirstOccurrences.{is_among, firsts-last}
use Rattle.qs_check.specs.Cells.{variables_among}
use Rattle.qs_check.proofs.Written.{variables_among-append}

pub is_member : (v : Var) (vs : List Var) → is_among v vs ≡ true → v ∈ vs
is_member v [] e = absurd cc
is_member v (w ∷ vs) e = tested (same_var w v) refl e (is_member v vs)
  where
    tested : (b : Bool) → same_var w v ≡ b → (b || is_among v vs) ≡ true → (is_among v vs ≡ true → v ∈ vs) → v ∈ (w ∷ vs)
    tested true h e behind = inl (sym (same_var-true w v h))
    tested false h e behind = inr (behind e)

pub member_is : (v : Var) (vs : List Var) → v ∈ vs → is_among v vs ≡ true
member_is v [] i = absurd i
member_is v (w ∷ vs) (inl e) = ap (λ u. same_var w u || is_among v vs) e ∙ ap (λ b. b || is_among v vs) (same_var-refl w)
member_is v (w ∷ vs) (inr i) = tested (same_var w v) (member_is v vs i)
  where
    tested : (b : Bool) → is_among v vs ≡ true → (b || is_among v vs) ≡ true
    tested true e = refl
    tested false e = e

pub not_member : (v : Var) (vs : List Var) → (v ∈ vs → ⊥) → is_among v vs ≡ false
not_member v vs n = false_from_ne_true (is_among v vs) (λ e. n (is_member v vs e))

-- the variables that a cell adds
pub only_variable : (cell : Head) (v w : Var) → cell ≡ head.Var v → w ∈ head_variables cell → w ≡ v
only_variable cell v w e i = ⊎_elim (λ d. d) (λ n. absurd n) (subst (λ h. w ∈ head_variables h) e i)

module _ (cells : List Head) (i : ℕ) (x : Head) (l : i < length cells) (is : x ≡ get_or cells i x) where
  pub among-more : variables_among (take (i + 1) cells) ≡ variables_among (take i cells) ++ head_variables x
  among-more =
      ap variables_among (take_more cells i x l) ∙ ap (λ h. variables_among (take i cells ++ h ∷ [])) (sym is)
      ∙ variables_among-append (take i cells) (x ∷ []) ∙ ap (λ vs. variables_among (take i cells) ++ vs) (append-nil (head_variables x))

  pub each_more : (bound : List Var) → ((v : Var) → v ∈ variables_among (take i cells) → v ∈ bound) → ((v : Var) → v ∈ head_variables x → v ∈ bound)
      → (v : Var) → v ∈ variables_among (take (i + 1) cells) → v ∈ bound
  each_more bound before here v m = ⊎_elim (before v) (here v) (from_append (variables_among (take i cells)) (head_variables x) v (subst (λ vs. v ∈ vs) among-more m))

  -- a cell that adds no new variable
  pub firsts_same : ((v : Var) → v ∈ head_variables x → v ∈ firsts (variables_among (take i cells))) → firsts (variables_among (take (i + 1) cells)) ≡ firsts (variables_among (take i cells))
  firsts_same known = ap firsts among-more ∙ by x known
    where
      by : (h : Head) → ((v : Var) → v ∈ head_variables h → v ∈ firsts (variables_among (take i cells))) → firsts (variables_among (take i cells) ++ head_variables h) ≡ firsts (variables_among (take i cells))
      by (head.Label n) known = ap firsts (append-nil (variables_among (take i cells)))
      by (head.Var v) known =
          let seen = firsts (variables_among (take i cells)) in
          firsts-last (variables_among (take i cells)) v ∙ ap (λ b. if b then seen else seen ++ v ∷ []) (member_is v seen (known v (inl refl)))

  -- a cell that is a new variable
  pub firsts_new : (v : Var) → x ≡ head.Var v → (v ∈ firsts (variables_among (take i cells)) → ⊥) → firsts (variables_among (take (i + 1) cells)) ≡ firsts (variables_among (take i cells)) ++ v ∷ []
  firsts_new v e new =
      let seen = firsts (variables_among (take i cells)) in
      ap firsts among-more ∙ ap (λ h. firsts (variables_among (take i cells) ++ head_variables h)) e
      ∙ firsts-last (variables_among (take i cells)) v ∙ ap (λ b. if b then seen else seen ++ v ∷ []) (not_member v seen new)

-- more variables have no fewer first occurrences
pub firsts-grow : (vs ws : List Var) → length (firsts vs) ≤ length (firsts (vs ++ ws))
firsts-grow vs [] = subst (λ us. length (firsts vs) ≤ length (firsts us)) (sym (append-nil vs)) (omega arith)
firsts-grow vs (w ∷ ws) =
    let all : (vs ++ w ∷ []) ++ ws ≡ vs ++ (w ∷ ws) = append_assoc vs (w ∷ []) ws in
    let rest = ap (λ us. length (firsts us)) all in
    omega (arith, one_more (is_among w (firsts vs)), ap length (firsts-last vs w), firsts-grow (vs ++ w ∷ []) ws, rest)
  where
    one_more : (b : Bool) → length (firsts vs) ≤ length (if b then firsts vs else firsts vs ++ w ∷ [])
    one_more true = omega arith
    one_more false = omega (arith, length-append (firsts vs) (w ∷ []))
