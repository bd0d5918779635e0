-- Numbers one behind the other.
use Rattle.std.proofs.Common.{◌≡◌, ℕ, zero, suc, ◌+◌, ◌-◌, ◌≤◌, [], ◌∷◌, ◌++◌, ◌∙◌, ap, subst, inl, inr, ⊎_elim, arith}
use Rattle.std.proofs.lemmas.Bool.{cases_lt}
use Rattle.qs_tree.specs.Lists.{◌∈◌}
use Rattle.qs_firing.specs.Adding.{from_on}
use Rattle.qs_explain.specs.working.Marks.{IsFrom}
use Rattle.qs_canon.proofs.CanonStart.{from_on-more}

-- so many numbers from n on are those from n up to n + m
pub from_on-from : (n m k : ℕ) → k ∈ from_on n m → IsFrom n (n + m) k
from_on-from n zero k i = absurd i
from_on-from n (suc m) k (inl e) = (omega arith, omega arith)
from_on-from n (suc m) k (inr i) = let h = from_on-from (n + 1) m k i in let a = h.0 in let b = h.1 in (omega arith, omega arith)

pub from_on-in : (n m k : ℕ) → IsFrom n (n + m) k → k ∈ from_on n m
from_on-in n zero k h = let a = h.0 in let b = h.1 in absurd (omega arith)
from_on-in n (suc m) k h =
    let a = h.0 in
    let b = h.1 in
    ⊎_elim (λ l. inr (from_on-in (n + 1) m k (omega arith, omega arith))) (λ l. inl (omega arith)) (cases_lt n k)

-- those up to m
pub between-from : (n m k : ℕ) → k ∈ from_on n (m - n) → IsFrom n m k
between-from n m k i = ⊎_elim
    (λ l. let h = from_on-from n (m - n) k i in let a = h.0 in let b = h.1 in (omega arith, omega arith))
    (λ l. let e : m - n ≡ 0 = omega arith in absurd (subst (λ j. k ∈ from_on n j) e i))
    (cases_lt n m)

pub between-in : (n m k : ℕ) → IsFrom n m k → k ∈ from_on n (m - n)
between-in n m k h = let a = h.0 in let b = h.1 in from_on-in n (m - n) k (omega arith, omega arith)

-- one more
pub between-more : (n m : ℕ) → n ≤ m → from_on n (m + 1 - n) ≡ from_on n (m - n) ++ m ∷ []
between-more n m l =
    let many : m + 1 - n ≡ suc (m - n) = omega arith in
    let last : n + (m - n) ≡ m = omega arith in
    ap (from_on n) many ∙ from_on-more n (m - n) ∙ ap (λ j. from_on n (m - n) ++ j ∷ []) last
