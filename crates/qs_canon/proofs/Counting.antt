-- A list without repetition that is related one-to-one to members of another is no longer than it.
use Rattle.std.proofs.Common.{◌≡◌, ℕ, zero, suc, ◌+◌, ◌<◌, ◌≤◌, List, [], ◌∷◌, length, refl, subst, inl, inr, ⊎_elim, ◌⊎◌, arith}
use Rattle.qs_tree.specs.Lists.{◌∈◌}
use Rattle.qs_firing.specs.Adding.{from_on}
use Rattle.qs_core.specs.Growth.{AllApart}
use Rattle.qs_core.proofs.Counting.{without}

pub fewer : {X Y : Type 0} (Rel : X → Y → Type 0) → ((x x' : X) (y : Y) → Rel x y → Rel x' y → x ≡ x')
    → (xs : List X) (ys : List Y) → AllApart xs → ((x : X) → x ∈ xs → (y : Y) × (y ∈ ys) × Rel x y) → length xs ≤ length ys
fewer Rel one [] ys a all = omega arith
fewer {X} {Y} Rel one (x ∷ xs) ys a all =
    let (y, i, r) = all x (inl refl) in
    let (rest, n, left) = without ys y i in
    omega (arith, n, fewer Rel one xs rest a.1 (λ z j. moved y r rest left z j (all z (inr j))))
  where
    moved : (y : Y) → Rel x y → (rest : List Y) → ((z : Y) → z ∈ ys → (z ≡ y) ⊎ (z ∈ rest)) → (z : X) → z ∈ xs → ((w : Y) × (w ∈ ys) × Rel z w) → (w : Y) × (w ∈ rest) × Rel z w
    moved y r rest left z j (w, k, s) = ⊎_elim
        (λ e. absurd (a.0 (subst (λ q. q ∈ xs) (one z x y (subst (Rel z) e s) r) j)))
        (λ l. (w, l, s))
        (left w k)

-- numbers in order
from_low : (n m k : ℕ) → k ∈ from_on n m → (n ≤ k) × (k < n + m)
from_low n zero k i = absurd i
from_low n (suc m) k (inl e) = (omega arith, omega arith)
from_low n (suc m) k (inr i) = let (a, b) = from_low (n + 1) m k i in (omega (arith, a), omega (arith, b))

pub from_in : (n m j : ℕ) → j < m → (n + j) ∈ from_on n m
from_in n zero j h = absurd (omega arith)
from_in n (suc m) zero h = inl (omega arith)
from_in n (suc m) (suc j) h = let e : n + 1 + j ≡ n + suc j = omega arith in inr (subst (λ x. x ∈ from_on (n + 1) m) e (from_in (n + 1) m j (omega arith)))

from_apart : (n m : ℕ) → AllApart (from_on n m)
from_apart n zero = tt
from_apart n (suc m) = ((λ i. let (a, b) = from_low (n + 1) m n i in omega (arith, a)), from_apart (n + 1) m)

pub from_long : (n m : ℕ) → length (from_on n m) ≡ m
from_long n zero = refl
from_long n (suc m) = let e = from_long (n + 1) m in omega (arith, e)

-- the numbers below n are related one-to-one to numbers below m
pub fewer_numbers : (Rel : ℕ → ℕ → Type 0) → ((k k' l : ℕ) → Rel k l → Rel k' l → k ≡ k') → (n m : ℕ) → ((k : ℕ) → k < n → (l : ℕ) × (l < m) × Rel k l) → n ≤ m
fewer_numbers Rel one n m all =
    let h = fewer Rel one (from_on 0 n) (from_on 0 m) (from_apart 0 n) (λ k i. there k (from_low 0 n k i)) in
    omega (arith, h, from_long 0 n, from_long 0 m)
  where
    there : (k : ℕ) → ((0 ≤ k) × (k < 0 + n)) → (l : ℕ) × (l ∈ from_on 0 m) × Rel k l
    there k (a, b) =
        let (l, h, r) = all k (omega (arith, b)) in
        let z : 0 + l ≡ l = omega arith in
        (l, subst (λ x. x ∈ from_on 0 m) z (from_in 0 m l h), r)
