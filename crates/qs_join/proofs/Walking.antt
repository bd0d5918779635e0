-- The arcs at a node, from the last one down.
use Rattle.std.proofs.Common.{◌≡◌, ℕ, zero, suc, ◌<◌, ◌⊎◌, inl, inr, ⊎_elim, List, [], ◌∷◌, take, Option, Some, None, slice_get, sym, subst, arith}
use Rattle.std.proofs.Math.Nat.{eq-or-lt_of_le}
use Rattle.std.proofs.lemmas.Bool.{cases_lt}
use Rattle.qs_firing.specs.Firings.{Firing}
use Rattle.qs_firing.specs.Neighbours.{IsLastPlace}
use Rattle.qs_join.specs.working.Searching.{Finds}
use Rattle.qs_join.proofs.Finding.{finds_none, finds_both}

-- the number comes behind the next one that is to be tried
abbrev pub IsAbove : Option ℕ → ℕ → Type 0
IsAbove None k = Unit {0}
IsAbove (Some j) k = j < k

-- the firings of the numbers that were tried
abbrev pub Tried : (ℕ → Firing → Type 0) → Option ℕ → Firing → Type 0
Tried Q next f = (k : ℕ) × IsAbove next k × Q k f

-- how many numbers there may be yet
abbrev pub steps_left : Option ℕ → ℕ
steps_left None = 0
steps_left (Some j) = suc j

in_front : {X : Type 0} (xs : List X) (j i : ℕ) (x : X) → slice_get (take j xs) i ≡ Some x → (i < j) × (slice_get xs i ≡ Some x)
in_front [] zero i x e = absurd cc
in_front [] (suc j) i x e = absurd cc
in_front (y ∷ xs) zero i x e = absurd cc
in_front (y ∷ xs) (suc j) zero x e = (omega arith, e)
in_front (y ∷ xs) (suc j) (suc i) x e = let (l, h) = in_front xs j i x e in (omega arith, h)

to_front : {X : Type 0} (xs : List X) (j i : ℕ) (x : X) → i < j → slice_get xs i ≡ Some x → slice_get (take j xs) i ≡ Some x
to_front [] j i x l e = absurd cc
to_front (y ∷ xs) zero i x l e = absurd (omega arith)
to_front (y ∷ xs) (suc j) zero x l e = e
to_front (y ∷ xs) (suc j) (suc i) x l e = to_front xs j i x (omega arith) e

-- two numbers are equal, or one of them is less
which : (k j : ℕ) → (k < j) ⊎ ((k ≡ j) ⊎ (j < k))
which k j = ⊎_elim (λ h. inl h) (λ h. inr (⊎_elim (λ e. inl (sym e)) (λ l. inr l) (eq-or-lt_of_le h))) (cases_lt k j)

-- the next number is less
pub falls : (ns : List ℕ) (n j : ℕ) (next : Option ℕ) → IsLastPlace (take j ns) n next → steps_left next < steps_left (Some j)
falls ns n j None x = omega arith
falls ns n j (Some i) x = let (l, h) = in_front ns j i n x.0 in omega arith

-- and it stands at the node too
pub next_stands : (ns : List ℕ) (n j : ℕ) (next : Option ℕ) → IsLastPlace (take j ns) n next → (i : ℕ) → next ≡ Some i → slice_get ns i ≡ Some n
next_stands ns n j None x i e = absurd cc
next_stands ns n j (Some k) x i e = let same : k ≡ i = cc in subst (λ l. slice_get ns l ≡ Some n) same (in_front ns j k n x.0).1

pub last_stands : (ns : List ℕ) (n : ℕ) (next : Option ℕ) → IsLastPlace ns n next → (i : ℕ) → next ≡ Some i → slice_get ns i ≡ Some n
last_stands ns n None x i e = absurd cc
last_stands ns n (Some k) x i e = let same : k ≡ i = cc in subst (λ l. slice_get ns l ≡ Some n) same x.0

module _ (ns : List ℕ) (n : ℕ) (Q : ℕ → Firing → Type 0) (stands : (k : ℕ) (f : Firing) → Q k f → slice_get ns k ≡ Some n) where
  -- no number was tried yet
  pub none_tried : (next : Option ℕ) → IsLastPlace ns n next → (f : Firing) → Tried Q next f → ⊥
  none_tried None x f (k, h, q) = x k (stands k f q)
  none_tried (Some j) x f (k, h, q) = let l = x.1 k (stands k f q) in omega arith

  tried_still : (j : ℕ) (next : Option ℕ) → IsLastPlace (take j ns) n next → (f : Firing) → Tried Q (Some j) f → Tried Q next f
  tried_still j None x f (k, h, q) = (k, tt, q)
  tried_still j (Some i) x f (k, h, q) = let (l, e) = in_front ns j i n x.0 in (k, omega arith, q)

  tried_now : (j : ℕ) (next : Option ℕ) → IsLastPlace (take j ns) n next → (f : Firing) → Q j f → Tried Q next f
  tried_now j None x f q = (j, tt, q)
  tried_now j (Some i) x f q = let (l, e) = in_front ns j i n x.0 in (j, l, q)

  -- no number between was passed over
  none_between : (j : ℕ) (next : Option ℕ) → IsLastPlace (take j ns) n next → (k : ℕ) → k < j → IsAbove next k → slice_get ns k ≡ Some n → ⊥
  none_between j None x k l h e = x k (to_front ns j k n l e)
  none_between j (Some i) x k l h e = let m = x.1 k (to_front ns j k n l e) in omega arith

  either : (j : ℕ) (next : Option ℕ) → IsLastPlace (take j ns) n next → (f : Firing) → Tried Q next f → Tried Q (Some j) f ⊎ Q j f
  either j next x f (k, h, q) = ⊎_elim
      (λ l. absurd (none_between j next x k l h (stands k f q)))
      (λ d. ⊎_elim (λ e. inr (subst (λ i. Q i f) e q)) (λ l. inl (k, l, q)) d)
      (which k j)

  pub tried_more : (j : ℕ) (next : Option ℕ) (a b c : List Firing) → IsLastPlace (take j ns) n next → Finds (Tried Q (Some j)) a b → Finds (Q j) b c → Finds (Tried Q next) a c
  tried_more j next a b c x = finds_both (tried_still j next x) (tried_now j next x) (either j next x)

  pub tried_past : (j : ℕ) (next : Option ℕ) (a b : List Firing) → IsLastPlace (take j ns) n next → Finds (Tried Q (Some j)) a b → ((f : Firing) → Q j f → ⊥) → Finds (Tried Q next) a b
  tried_past j next a b x y never = finds_both (tried_still j next x) (tried_now j next x) (either j next x) y (finds_none never b)
