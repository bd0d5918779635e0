-- Places in lists of statuses and of firings.
use Rattle.std.proofs.Common.{◌≡◌, ℕ, zero, suc, ◌≤◌, Bool, true, false, List, [], ◌∷◌, ◌++◌, length, map, refl, ap, subst, inl, inr, ⊎_elim, ◌⊎◌, arith, Some, slice_get, eqb, eqb-true, eq-eqb}
use Rattle.std.specs.Prelude.{if◌then◌else◌}
use Rattle.qs_tree.specs.Lists.{Ascends}
use Rattle.qs_tree.proofs.Members.{in_at}
use Rattle.qs_firing.specs.Firings.{Firing, Before}
use Rattle.qs_firing.proofs.Orders.{Before-asym}
use Rattle.qs_core.specs.declared.step.Status.{Status}
use Rattle.qs_core.specs.declared.step.Status.TheVariants as status
use Rattle.qs_core.specs.Core.{all_wait, rest_one}

pub all_waiting : {X : Type 0} (xs : List X) (m : ℕ) (s : Status) → slice_get (all_wait xs) m ≡ Some s → s ≡ status.Waiting
all_waiting [] m s e = absurd cc
all_waiting (x ∷ xs) zero s e = cc
all_waiting (x ∷ xs) (suc m) s e = all_waiting xs m s e

pub more_cases : {X : Type 0} (xs ys : List X) (n : ℕ) (x : X) → slice_get (xs ++ ys) n ≡ Some x → (slice_get xs n ≡ Some x) ⊎ ((length xs ≤ n) × ((j : ℕ) × (slice_get ys j ≡ Some x)))
more_cases [] ys n x e = inr (omega arith, (n, e))
more_cases (z ∷ xs) ys zero x e = inl e
more_cases (z ∷ xs) ys (suc n) x e = ⊎_elim inl (λ (h, j). inr (omega arith, j)) (more_cases xs ys n x e)

-- what was a claim of seat i is status.Done, and the rest is as it was
pub rest_cases : (i : ℕ) (xs : List Status) (m : ℕ) (s : Status) → slice_get (map (rest_one i) xs) m ≡ Some s
    → ((slice_get xs m ≡ Some s) × ((k : ℕ) → s ≡ status.Claimed i k → ⊥)) ⊎ ((k : ℕ) × (slice_get xs m ≡ Some (status.Claimed i k)) × (s ≡ status.Done))
rest_cases i [] m s e = absurd cc
rest_cases i (x ∷ xs) (suc m) s e = rest_cases i xs m s e
rest_cases i (status.Waiting ∷ xs) zero s e = inl (e, λ k d. cc)
rest_cases i (status.Done ∷ xs) zero s e = inl (e, λ k d. cc)
rest_cases i (status.Claimed j k ∷ xs) zero s e = tested (eqb j i) refl e
  where
    tested : (b : Bool) → eqb j i ≡ b → Some (if b then status.Done else status.Claimed j k) ≡ Some s
        → ((Some (status.Claimed j k) ≡ Some s) × ((k : ℕ) → s ≡ status.Claimed i k → ⊥)) ⊎ ((l : ℕ) × (Some (status.Claimed j k) ≡ Some (status.Claimed i l)) × (s ≡ status.Done))
    tested true t e = inr (k, ap (λ n. Some (status.Claimed n k)) (eqb-true j i t), cc)
    tested false t e = inl (e, λ l d. let same : j ≡ i = cc in let u = eq-eqb j i same in cc)

-- a list that ascends has each member at one place
pub at_one_place : (F : List Firing) → Ascends Before F → (i j : ℕ) (f : Firing) → slice_get F i ≡ Some f → slice_get F j ≡ Some f → i ≡ j
at_one_place [] a i j f p q = absurd cc
at_one_place (g ∷ F) a zero zero f p q = refl
at_one_place (g ∷ F) a zero (suc j) f p q = let b : Before g f = a.0 f (in_at F j f q) in let e : g ≡ f = cc in let c : Before f f = subst (λ x. Before x f) e b in absurd (Before-asym f f c c)
at_one_place (g ∷ F) a (suc i) zero f p q = let b : Before g f = a.0 f (in_at F i f p) in let e : g ≡ f = cc in let c : Before f f = subst (λ x. Before x f) e b in absurd (Before-asym f f c c)
at_one_place (g ∷ F) a (suc i) (suc j) f p q = ap suc (at_one_place F a.1 i j f p q)
