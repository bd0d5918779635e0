-- Lists that ascend by an order, any list of whose members they have.
use Rattle.std.proofs.Common.{◌≡◌, List, [], ◌∷◌, refl, sym, ◌∙◌, subst, inl, inr}
use Rattle.qs_tree.specs.Lists.{◌∈◌, Ascends}

module _ {X : Type 0} {Below : X → X → Type 0} (asym : (x y : X) → Below x y → Below y x → ⊥) where
  -- the first members of two lists that ascend and have the same members are equal
  same_first : (x y : X) (xs ys : List X) → ((z : X) → z ∈ xs → Below x z) → ((z : X) → z ∈ ys → Below y z) → x ∈ (y ∷ ys) → y ∈ (x ∷ xs) → x ≡ y
  same_first x y xs ys bx by (inl e) _ = e
  same_first x y xs ys bx by (inr i) (inl e) = sym e
  same_first x y xs ys bx by (inr i) (inr j) = absurd (asym x y (bx y j) (by x i))

  -- a member behind the first of the one is behind the first of the other
  in_rest : (x y : X) (xs ys : List X) → x ≡ y → ((z : X) → z ∈ xs → Below x z) → (z : X) → z ∈ xs → z ∈ (y ∷ ys) → z ∈ ys
  in_rest x y xs ys e bx z i (inl same) =
      let b : Below x x = subst (Below x) (same ∙ sym e) (bx z i) in absurd (asym x x b b)
  in_rest x y xs ys e bx z i (inr j) = j

  -- two lists that ascend and have the same members are equal
  pub same_ascending : (xs ys : List X) → Ascends Below xs → Ascends Below ys → ((z : X) → z ∈ xs → z ∈ ys) → ((z : X) → z ∈ ys → z ∈ xs) → xs ≡ ys
  same_ascending [] [] _ _ _ _ = refl
  same_ascending [] (y ∷ ys) _ _ there back = absurd (back y (inl refl))
  same_ascending (x ∷ xs) [] _ _ there back = absurd (there x (inl refl))
  same_ascending (x ∷ xs) (y ∷ ys) ax ay there back =
      let e : x ≡ y = same_first x y xs ys ax.0 ay.0 (there x (inl refl)) (back y (inl refl)) in
      let r : xs ≡ ys = same_ascending xs ys ax.1 ay.1
      (λ z i. in_rest x y xs ys e ax.0 z i (there z (inr i)))
      (λ z i. in_rest y x ys xs (sym e) ay.0 z i (back z (inr i))) in
      cc
