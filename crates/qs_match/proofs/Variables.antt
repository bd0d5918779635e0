-- The new variables was_seen all: each where it first occurs.
use Rattle.std.proofs.Common.{Bool, true, false, not, cond, ◌&&◌, ◌≡◌, List, [], ◌∷◌, ◌++◌, filter, length, refl, sym, ap, ◌∙◌, subst, append_assoc, append-nil}
use Rattle.qs_tree.specs.Trees.{Tree}
use Rattle.qs_pattern.specs.declared.variable.Var.{Var}
use Rattle.qs_pattern.specs.declared.pattern.Head.TheVariants as head
use Rattle.qs_pattern.specs.Patterns.{Patterns, no_pattern, node_first, tree_var_first, forest_var_first}
use Rattle.qs_pattern.specs.Variables.{same_var}
use Rattle.qs_pattern.specs.Substitutions.{Substitution, variables_of}
use Rattle.qs_pattern.specs.Instances.{IsMatch, variables}
use Rattle.qs_pattern.specs.Patterns.{variables_in, AreInClass}
use Rattle.qs_pattern.specs.Variables.{firsts}
use Rattle.qs_pattern.proofs.VariableLemmas.{same_var-true}
use Rattle.qs_match.specs.working.Tasks.{Tasks, was_seen, new_ones, variables_before, Solves, Lists, Appends}
use Rattle.qs_match.proofs.Listed.{lists_same, lists_none}
use Rattle.qs_match.proofs.Covered.{fits}
use Rattle.qs_match.specs.working.Counts.{CanFit}

pub variables_before-is : (ps : Patterns) (vs : List Var) → variables_before ps vs ≡ variables_in ps ++ vs
variables_before-is no_pattern vs = refl
variables_before-is (node_first (head.Label l) ks rest) vs =
    variables_before-is ks (variables_before rest vs) ∙ ap (λ us. variables_in ks ++ us) (variables_before-is rest vs) ∙ sym (append_assoc (variables_in ks) (variables_in rest) vs)
variables_before-is (node_first (head.Var v) ks rest) vs =
    ap (λ us. v ∷ us) (variables_before-is ks (variables_before rest vs) ∙ ap (λ us. variables_in ks ++ us) (variables_before-is rest vs) ∙ sym (append_assoc (variables_in ks) (variables_in rest) vs))
variables_before-is (tree_var_first v rest) vs = ap (λ us. v ∷ us) (variables_before-is rest vs)
variables_before-is (forest_var_first v rest) vs = ap (λ us. v ∷ us) (variables_before-is rest vs)

filter_both : (p q r : Var → Bool) → ((w : Var) → r w ≡ (q w && p w)) → (vs : List Var) → filter p (filter q vs) ≡ filter r vs
filter_both p q r h [] = refl
filter_both p q r h (v ∷ vs) = split (q v) (filter_both p q r h vs) ∙ ap (λ b. cond b (v ∷ filter r vs) (filter r vs)) (sym (h v))
  where
    split : (a : Bool) → filter p (filter q vs) ≡ filter r vs → filter p (cond a (v ∷ filter q vs) (filter q vs)) ≡ cond (a && p v) (v ∷ filter r vs) (filter r vs)
    split true e = ap (λ us. cond (p v) (v ∷ us) us) e
    split false e = e

filter_whole : (p : Var → Bool) → ((w : Var) → p w ≡ true) → (vs : List Var) → filter p vs ≡ vs
filter_whole p h [] = refl
filter_whole p h (v ∷ vs) = rw (h v) (ap (λ us. v ∷ us) (filter_whole p h vs))

same_var-same : (v w : Var) → same_var v w ≡ true → (u : Var) → same_var u v ≡ same_var u w
same_var-same v w e u = ap (same_var u) (same_var-true v w e)

was_seen-same : (v w : Var) → same_var v w ≡ true → (seen : List Var) → was_seen v seen ≡ was_seen w seen
was_seen-same v w e [] = refl
was_seen-same v w e (u ∷ seen) = ap (λ b. cond b true (was_seen v seen)) (same_var-same v w e u) ∙ ap (λ b. cond (same_var u w) true b) (was_seen-same v w e seen)

was_seen-last : (v w : Var) (seen : List Var) → not (was_seen w (seen ++ v ∷ [])) ≡ (not (same_var v w) && not (was_seen w seen))
was_seen-last v w [] = split (same_var v w)
  where
    split : (b : Bool) → not (cond b true false) ≡ (not b && true)
    split true = refl
    split false = refl
was_seen-last v w (u ∷ seen) = split (same_var u w) (same_var v w) (was_seen-last v w seen)
  where
    split : (a b : Bool) → not (was_seen w (seen ++ v ∷ [])) ≡ (not b && not (was_seen w seen)) → not (cond a true (was_seen w (seen ++ v ∷ []))) ≡ (not b && not (cond a true (was_seen w seen)))
    split true true e = refl
    split true false e = refl
    split false b e = e

pub new_ones-is : (seen vs : List Var) → new_ones seen vs ≡ filter (λ w. not (was_seen w seen)) (firsts vs)
new_ones-is seen [] = refl
new_ones-is seen (v ∷ vs) = split (was_seen v seen) refl (new_ones-is seen vs) (new_ones-is (seen ++ v ∷ []) vs)
  where
    split : (b : Bool) → was_seen v seen ≡ b → new_ones seen vs ≡ filter (λ w. not (was_seen w seen)) (firsts vs)
        → new_ones (seen ++ v ∷ []) vs ≡ filter (λ w. not (was_seen w (seen ++ v ∷ []))) (firsts vs)
        → cond b (new_ones seen vs) (v ∷ new_ones (seen ++ v ∷ []) vs)
        ≡ cond (not b) (v ∷ filter (λ w. not (was_seen w seen)) (filter (λ w. not (same_var v w)) (firsts vs))) (filter (λ w. not (was_seen w seen)) (filter (λ w. not (same_var v w)) (firsts vs)))
    split true e f g = f ∙ sym (filter_both (λ w. not (was_seen w seen)) (λ w. not (same_var v w)) (λ w. not (was_seen w seen)) (λ w. covered w (same_var v w) refl) (firsts vs))
      where
        covered : (w : Var) (b : Bool) → same_var v w ≡ b → not (was_seen w seen) ≡ (not b && not (was_seen w seen))
        covered w true h = ap not (sym (was_seen-same v w h seen) ∙ e)
        covered w false h = refl
    split false e f g = ap (λ us. v ∷ us) (g ∙ sym (filter_both (λ w. not (was_seen w seen)) (λ w. not (same_var v w)) (λ w. not (was_seen w (seen ++ v ∷ []))) (λ w. was_seen-last v w seen) (firsts vs)))

-- all that is to be matched is one list of patterns, and nothing is bound
module _ (side : Patterns) (trees : List Tree) where
  variables_are : new_ones [] (variables_before side []) ≡ variables side
  variables_are =
      ap (new_ones []) (variables_before-is side [] ∙ append-nil (variables_in side)) ∙ new_ones-is [] (variables_in side) ∙ filter_whole (λ w. true) (λ w. refl) (variables side)

  pub match_from : (r : Substitution) → Solves ((side, trees) ∷ []) [] r → IsMatch side trees r
  match_from r z = record { variables = ap variables_of z.extends.are ∙ z.extends.variables ∙ variables_are; classes = z.extends.classes; instance = z.fits.0 }

  pub match_to : (r : Substitution) → IsMatch side trees r → Solves ((side, trees) ∷ []) [] r
  match_to r m = record { extends = record { more = r; are = refl; variables = m.variables ∙ sym variables_are; classes = m.classes }; fits = (m.instance, tt) }

  pub lists_matches : (found : List Substitution) → Lists (Solves ((side, trees) ∷ []) []) found → Lists (IsMatch side trees) found
  lists_matches found l = lists_same match_from match_to l

  pub found_matches : (W : Tasks) (s : Substitution) (old new : List Substitution) → W ≡ [] → s ≡ [] → old ≡ [] → Appends ((side, trees) ∷ W) s old new → Lists (IsMatch side trees) new
  found_matches W s old new w e o a =
      let b : Appends ((side, trees) ∷ []) [] [] new = rw (w, e, o) at a in
      subst (Lists (IsMatch side trees)) (sym b.are) (lists_matches b.found b.lists)

  -- the side can't stand for so many trees
  pub no_matches : AreInClass side → (CanFit side (length trees) → ⊥) → (found : List Substitution) → found ≡ [] → Lists (IsMatch side trees) found
  no_matches c never found e =
      rw e (lists_none (λ r m. let z = match_to r m in never (subst (CanFit side) (ap length z.fits.0) (fits side [] [] r c z.extends))))
