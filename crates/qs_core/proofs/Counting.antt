-- How many firings of a claim's work are done: no more than are done in all.
use Rattle.std.proofs.Common.{◌≡◌, ℕ, zero, suc, ◌<◌, ◌≤◌, List, [], ◌∷◌, length, take, refl, sym, ◌∙◌, ap, subst, inl, inr, ⊎_elim, ◌⊎◌, arith, Some, slice_get}
use Rattle.qs_tree.specs.Lists.{◌∈◌, Ascends}
use Rattle.qs_firing.specs.Firings.{Firing, Before}
use Rattle.qs_firing.proofs.Orders.{Before-asym}
use Rattle.qs_core.specs.Growth.{AllApart}
use Rattle.qs_core.specs.Keeps.{AreFirst}

-- a list without one of its members
pub without : {Y : Type 0} (ys : List Y) (y : Y) → y ∈ ys → (rest : List Y) × (length ys ≡ suc (length rest)) × ((z : Y) → z ∈ ys → (z ≡ y) ⊎ (z ∈ rest))
without [] y i = absurd i
without (x ∷ ys) y (inl e) = (ys, refl, λ z j. ⊎_elim (λ d. inl (d ∙ sym e)) inr j)
without (x ∷ ys) y (inr i) =
    let (rest, n, all) = without ys y i in
    (x ∷ rest, ap suc n, λ z j. ⊎_elim (λ d. inr (inl d)) (λ k. ⊎_elim inl (λ l. inr (inr l)) (all z k)) j)

-- a list without repetition is no longer than one that has all its members
fewer : {Y : Type 0} (xs ys : List Y) → AllApart xs → ((x : Y) → x ∈ xs → x ∈ ys) → length xs ≤ length ys
fewer [] ys a all = omega arith
fewer {Y} (x ∷ xs) ys a all =
    let (rest, n, left) = without ys x (all x (inl refl)) in
    omega (arith, n, fewer xs rest a.1 (λ z j. moved rest left z j (all z (inr j))))
  where
    moved : (rest : List Y) → ((z : Y) → z ∈ ys → (z ≡ x) ⊎ (z ∈ rest)) → (z : Y) → z ∈ xs → z ∈ ys → z ∈ rest
    moved rest left z j k = ⊎_elim (λ e. absurd (a.0 (subst (λ q. q ∈ xs) e j))) (λ l. l) (left z k)

first_apart : (F : List Firing) → Ascends Before F → (k : ℕ) → AllApart (take k F)
first_apart F a zero = tt
first_apart [] a (suc k) = tt
first_apart (f ∷ F) a (suc k) = ((λ i. let b : Before f f = a.0 f (in_first F k f i) in Before-asym f f b b), first_apart F a.1 k)
  where
    in_first : (G : List Firing) (n : ℕ) (g : Firing) → g ∈ take n G → g ∈ G
    in_first G zero g i = absurd i
    in_first [] (suc n) g i = absurd i
    in_first (h ∷ G) (suc n) g (inl e) = inl e
    in_first (h ∷ G) (suc n) g (inr i) = inr (in_first G n g i)

place_in : (F : List Firing) (k : ℕ) (f : Firing) → f ∈ take k F → (j : ℕ) × (slice_get F j ≡ Some f) × (j < k)
place_in F zero f i = absurd i
place_in [] (suc k) f i = absurd i
place_in (g ∷ F) (suc k) f (inl e) = (zero, ap Some (sym e), omega arith)
place_in (g ∷ F) (suc k) f (inr i) = let (j, at, h) = place_in F k f i in (suc j, at, omega arith)

take_long : (k : ℕ) (F : List Firing) → k ≤ length F → length (take k F) ≡ k
take_long zero F h = refl
take_long (suc k) [] h = absurd (omega arith)
take_long (suc k) (f ∷ F) h = ap suc (take_long k F (omega arith))

pub first_few : (done F : List Firing) (k : ℕ) → Ascends Before F → AreFirst done F k → k ≤ length done
first_few done F k a first =
    let few = fewer (take k F) done (first_apart F a k) (λ f i. let (j, at, h) = place_in F k f i in first.before j f at h) in
    omega (arith, few, take_long k F first.within)
