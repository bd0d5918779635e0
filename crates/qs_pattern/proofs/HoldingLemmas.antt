-- What holds of each tree of a list, tree by tree.
use Rattle.std.proofs.Common.{◌≡◌, ◌↔◌, List, [], ◌∷◌, sym, refl, subst, inl, inr, ⊎_elim}
use Rattle.qs_tree.specs.Lists.{◌∈◌}
use Rattle.qs_tree.specs.Trees.{Tree}

-- P holds of each tree of the list
abbrev pub Each : (Tree → Type 0) → List Tree → Type 0
Each P ts = (t : Tree) → t ∈ ts → P t

module _ (P : Tree → Type 0) where
  pub each_none : (ts : List Tree) → ts ≡ [] → Each P ts
  each_none ts e t i = absurd (subst (λ us. t ∈ us) e i)

  pub each_first : (ts us : List Tree) (t : Tree) → ts ≡ t ∷ us → Each P ts → P t
  each_first ts us t e all = all t (subst (λ vs. t ∈ vs) (sym e) (inl refl))

  -- where P holds of the first, it holds of each where it does of each other
  pub each_more : (ts us : List Tree) (t : Tree) (A : Type 0) → ts ≡ t ∷ us → P t → Each P ts ↔ A → Each P us ↔ A
  each_more ts us t A e first (to, from) = (
    λ others. to (λ u i. ⊎_elim (λ same. subst P (sym same) first) (λ j. others u j) (subst (λ vs. u ∈ vs) e i)),
    λ a u i. from a u (subst (λ vs. u ∈ vs) (sym e) (inr i)),
  )
