-- What holds of the members of a list that were seen so far.
use Rattle.std.proofs.Common.{◌≡◌, ℕ, zero, suc, ◌+◌, ◌≤◌, inl, inr, List, [], ◌∷◌, length, Some, slice_get, take, subst, arith}
use Rattle.qs_tree.specs.Lists.{◌∈◌}

module _ {X : Type 0} (P : X → Type 0) where
  more : (xs : List X) (n : ℕ) (x : X) → slice_get xs n ≡ Some x → ((y : X) → y ∈ take n xs → P y) → P x → (y : X) → y ∈ take (suc n) xs → P y
  more [] n x e h p y i = absurd cc
  more (z ∷ xs) zero x e h p y (inl q) = let same : x ≡ y = cc in subst P same p
  more (z ∷ xs) zero x e h p y (inr i) = absurd i
  more (z ∷ xs) (suc n) x e h p y (inl q) = h y (inl q)
  more (z ∷ xs) (suc n) x e h p y (inr i) = more xs n x e (λ w j. h w (inr j)) p y i

  pub one_more : (xs : List X) (n : ℕ) (x : X) → slice_get xs n ≡ Some x → ((y : X) → y ∈ take n xs → P y) → P x → (y : X) → y ∈ take (n + 1) xs → P y
  one_more xs n x e h p y i = let same : n + 1 ≡ suc n = omega arith in more xs n x e h p y (subst (λ m. y ∈ take m xs) same i)

  pub all_taken : (xs : List X) (n : ℕ) → length xs ≤ n → ((y : X) → y ∈ take n xs → P y) → (y : X) → y ∈ xs → P y
  all_taken [] n l h y i = absurd i
  all_taken (z ∷ xs) zero l h y i = absurd (omega arith)
  all_taken (z ∷ xs) (suc n) l h y (inl e) = h y (inl e)
  all_taken (z ∷ xs) (suc n) l h y (inr i) = all_taken xs n (omega arith) (λ w j. h w (inr j)) y i
