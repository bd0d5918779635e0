-- The matches of a rule's left side that its condition allows, one after the other.
use Rattle.std.proofs.Common.{◌≡◌, ◌⊎◌, inl, inr, ⊎_elim, ℕ, List, [], ◌∷◌, ◌++◌, refl, sym, ap, ◌∙◌, subst, append_assoc}
use Rattle.qs_tree.specs.Lists.{◌∈◌}
use Rattle.qs_tree.proofs.Members.{in_append_left, in_append_right, from_append}
use Rattle.qs_tree.specs.Trees.{Tree}
use Rattle.qs_pattern.specs.Patterns.{Patterns}
use Rattle.qs_pattern.specs.Substitutions.{Substitution}
use Rattle.qs_pattern.specs.Instances.{IsMatch}
use Rattle.qs_pattern.specs.Conditions.{HoldsIfGiven}
use Rattle.qs_pattern.specs.Rules.{Rule}
use Rattle.qs_firing.specs.Firings.{Firing}
use Rattle.qs_join.specs.working.Searching.{Finds}
use Rattle.qs_join.specs.working.Matching.{HasValues}
use Rattle.qs_join.proofs.Finding.{finds_same, finds_both, finds_one}

-- the matches of a side with a list of trees, for equal sides and lists
pub same_sound : (ps qs : Patterns) (ts us : List Tree) (M : List Substitution) → ps ≡ qs → ts ≡ us → ((s : Substitution) → s ∈ M → IsMatch ps ts s) → (s : Substitution) → s ∈ M → IsMatch qs us s
same_sound ps qs ts us M e d h s i = subst (λ (X : Type 0). X) (λ j. IsMatch (e j) (d j) s) (h s i)

pub same_all : (ps qs : Patterns) (ts us : List Tree) (M : List Substitution) → ps ≡ qs → ts ≡ us → ((s : Substitution) → IsMatch ps ts s → s ∈ M) → (s : Substitution) → IsMatch qs us s → s ∈ M
same_all ps qs ts us M e d h s m = h s (subst (λ (X : Type 0). X) (sym (λ j. IsMatch (e j) (d j) s)) m)

-- one more was seen of all
pub seen_more : (all seen rest more : List Substitution) (s : Substitution) → all ≡ seen ++ rest → rest ≡ s ∷ more → all ≡ (seen ++ s ∷ []) ++ more
seen_more all seen rest more s e d = e ∙ ap (λ ss. seen ++ ss) d ∙ sym (append_assoc seen (s ∷ []) more)

-- the next one is one of them
pub is_one : (all seen rest more : List Substitution) (s : Substitution) → all ≡ seen ++ rest → rest ≡ s ∷ more → s ∈ all
is_one all seen rest more s e d = subst (λ ss. s ∈ ss) (sym (e ∙ ap (λ ss. seen ++ ss) d)) (in_append_right seen (s ∷ more) s (inl refl))

module _ (number : ℕ) (rule : Rule) (path : List ℕ) (seen : List Substitution) (s : Substitution) where
  values_still : (f : Firing) → HasValues number rule path seen f → HasValues number rule path (seen ++ s ∷ []) f
  values_still f h = record { rule_is = h.rule_is; path_is = h.path_is; among = in_append_left seen (s ∷ []) f.values h.among; holds = h.holds }

  abbrev this : Firing
  this = record { rule = number; path = path; values = s }

  values_now : HoldsIfGiven rule.condition s → (f : Firing) → f ≡ this → HasValues number rule path (seen ++ s ∷ []) f
  values_now holds f e = subst (HasValues number rule path (seen ++ s ∷ [])) (sym e)
      (record { rule_is = refl; path_is = refl; among = in_append_right seen (s ∷ []) s (inl refl); holds = holds })

  either : (f : Firing) → HasValues number rule path (seen ++ s ∷ []) f → HasValues number rule path seen f ⊎ (f ≡ this)
  either f h = ⊎_elim
      (λ i. inl (record { rule_is = h.rule_is; path_is = h.path_is; among = i; holds = h.holds }))
      (λ d. ⊎_elim (λ e. inr (let q = h.rule_is in let r = h.path_is in λ i. record { rule = q i; path = r i; values = e i })) (λ z. absurd z) d)
      (from_append seen (s ∷ []) f.values h.among)

  pub values_more : (old new more : List Firing) → HoldsIfGiven rule.condition s → more ≡ new ++ record { rule = number; path = path; values = s } ∷ []
      → Finds (HasValues number rule path seen) old new → Finds (HasValues number rule path (seen ++ s ∷ [])) old more
  values_more old new more holds e x = finds_both values_still (values_now holds) either x (finds_one this refl (λ f d. d) new more e)

  pub values_past : (old new : List Firing) → (HoldsIfGiven rule.condition s → ⊥) → Finds (HasValues number rule path seen) old new → Finds (HasValues number rule path (seen ++ s ∷ [])) old new
  values_past old new never x = finds_same values_still
      (λ f h. ⊎_elim (λ d. d) (λ e. absurd (never (subst (HoldsIfGiven rule.condition) (ap (λ (g : Firing). g.values) e) h.holds))) (either f h)) x
