-- Members of lists at their places.
use Rattle.std.proofs.Common.{ℕ, suc, zero, ◌≡◌, ◌<◌, ◌⊎◌, inl, inr, ⊎_elim, List, [], ◌∷◌, length, map, take, set, replicate, Some, refl, ap, ◌∙◌, arith}
use Rattle.std.specs.Prelude.{slice_get}
use Rattle.std.specs.Option.{option_map}
use Rattle.std.proofs.lemmas.Option.{slice_get-map}

-- a member stands at each place of a list
pub exists_at : {X : Type 0} (xs : List X) (k : ℕ) → k < length xs → (x : X) × (slice_get xs k ≡ Some x)
exists_at [] k l = absurd (omega arith)
exists_at (x ∷ xs) zero l = (x, refl)
exists_at (x ∷ xs) (suc k) l = exists_at xs k (omega arith)

-- what stands at a place stands there in a beginning that has the place
pub slice_get-take : {X : Type 0} (n : ℕ) (xs : List X) (k : ℕ) → k < n → slice_get (take n xs) k ≡ slice_get xs k
slice_get-take zero xs k h = absurd (omega arith)
slice_get-take (suc n) [] k h = refl
slice_get-take (suc n) (x ∷ xs) zero h = refl
slice_get-take (suc n) (x ∷ xs) (suc k) h = slice_get-take n xs k (omega arith)

-- and what a function makes of it, in the list that the function makes
pub at_mapped : {X Y : Type 0} (f : X → Y) (xs : List X) (k : ℕ) (x : X) → slice_get xs k ≡ Some x → slice_get (map f xs) k ≡ Some (f x)
at_mapped f xs k x e = slice_get-map f xs k ∙ ap (option_map f) e

-- a list of equal members
pub of_replicate : {X : Type 0} (n : ℕ) (x : X) (k : ℕ) (y : X) → slice_get (replicate n x) k ≡ Some y → y ≡ x
of_replicate zero x k y e = absurd cc
of_replicate (suc n) x zero y e = cc
of_replicate (suc n) x (suc k) y e = of_replicate n x k y e

-- a list of which one place was set: this place, each other one, and both
pub set_here : {X : Type 0} (xs : List X) (m : ℕ) (y : X) → m < length xs → slice_get (set xs m y) m ≡ Some y
set_here [] m y h = absurd (omega arith)
set_here (x ∷ xs) zero y h = refl
set_here (x ∷ xs) (suc m) y h = set_here xs m y (omega arith)

pub set_other : {X : Type 0} (xs : List X) (m : ℕ) (y : X) (n : ℕ) (x : X) → (n ≡ m → ⊥) → slice_get xs n ≡ Some x → slice_get (set xs m y) n ≡ Some x
set_other [] m y n x ne e = absurd cc
set_other (z ∷ xs) zero y zero x ne e = absurd (ne refl)
set_other (z ∷ xs) zero y (suc n) x ne e = e
set_other (z ∷ xs) (suc m) y zero x ne e = e
set_other (z ∷ xs) (suc m) y (suc n) x ne e = set_other xs m y n x (λ d. ne (ap suc d)) e

pub set_cases : {X : Type 0} (xs : List X) (m : ℕ) (y : X) (n : ℕ) (x : X) → slice_get (set xs m y) n ≡ Some x → ((n ≡ m) × (x ≡ y)) ⊎ ((n ≡ m → ⊥) × (slice_get xs n ≡ Some x))
set_cases [] m y n x e = absurd cc
set_cases (z ∷ xs) zero y zero x e = inl (refl, cc)
set_cases (z ∷ xs) zero y (suc n) x e = inr ((λ d. omega arith), e)
set_cases (z ∷ xs) (suc m) y zero x e = inr ((λ d. omega arith), e)
set_cases (z ∷ xs) (suc m) y (suc n) x e = ⊎_elim (λ (d, s). inl (ap suc d, s)) (λ (d, s). inr ((λ f. d (omega arith)), s)) (set_cases xs m y n x e)
