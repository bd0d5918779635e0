-- A list of firings put in order by their keys, without repetition.
use Rattle.std.proofs.Common.{◌≡◌, List, [], ◌∷◌, refl, sym, ◌∙◌, ap, subst, inl, inr, ⊎_elim, ◌⊎◌, Ordering}
use Rattle.std.specs.declared.cmp.Ordering.TheVariants.{Less, Equal, Greater}
use Rattle.std.specs.Ordering.{ordering_reverse}
use Rattle.qs_tree.specs.Lists.{◌∈◌, Ascends}
use Rattle.qs_firing.specs.Firings.{Firing, Before, order}
use Rattle.qs_firing.proofs.Orders.{order_total}

abbrev pub by_order : Ordering → Firing → Firing → List Firing → List Firing → List Firing
by_order Less f g gs rest = f ∷ g ∷ gs
by_order Equal f g gs rest = g ∷ gs
by_order Greater f g gs rest = g ∷ rest

-- f in its place in an ascending list
abbrev pub inserted : Firing → List Firing → List Firing
inserted f [] = f ∷ []
inserted f (g ∷ gs) = by_order (order f g) f g gs (inserted f gs)

abbrev pub sorted : List Firing → List Firing
sorted [] = []
sorted (f ∷ fs) = inserted f (sorted fs)

from_inserted : (f : Firing) (xs : List Firing) (g : Firing) → g ∈ inserted f xs → (g ≡ f) ⊎ (g ∈ xs)
from_inserted f [] g i = i
from_inserted f (x ∷ xs) g i = split (order f x) i (from_inserted f xs g)
  where
    split : (o : Ordering) → g ∈ by_order o f x xs (inserted f xs) → (g ∈ inserted f xs → (g ≡ f) ⊎ (g ∈ xs)) → (g ≡ f) ⊎ (g ∈ (x ∷ xs))
    split Less i behind = i
    split Equal i behind = inr i
    split Greater (inl e) behind = inr (inl e)
    split Greater (inr i) behind = ⊎_elim inl (λ j. inr (inr j)) (behind i)

-- firings of the list that tie with f are f
Ties : Firing → List Firing → Type 0
Ties f xs = (x : Firing) → x ∈ xs → order f x ≡ Equal → f ≡ x

in_inserted : (f : Firing) (xs : List Firing) → Ties f xs → (g : Firing) → (g ≡ f) ⊎ (g ∈ xs) → g ∈ inserted f xs
unfolding Ties
in_inserted f [] ties g i = i
in_inserted f (x ∷ xs) ties g i = split (order f x) refl i (in_inserted f xs (λ y j. ties y (inr j)) g)
  where
    split : (o : Ordering) → order f x ≡ o → (g ≡ f) ⊎ (g ∈ (x ∷ xs)) → ((g ≡ f) ⊎ (g ∈ xs) → g ∈ inserted f xs) → g ∈ by_order o f x xs (inserted f xs)
    split Less o i behind = i
    split Equal o (inl e) behind = inl (e ∙ ties x (inl refl) o)
    split Equal o (inr i) behind = i
    split Greater o (inl e) behind = inr (behind (inl e))
    split Greater o (inr (inl e)) behind = inl e
    split Greater o (inr (inr i)) behind = inr (behind (inr i))

inserted-ascends : (f : Firing) (xs : List Firing) → Ascends Before xs → Ascends Before (inserted f xs)
inserted-ascends f [] a = (λ g i. absurd i, tt)
inserted-ascends f (x ∷ xs) a = split (order f x) refl (inserted-ascends f xs a.1)
  where
    split : (o : Ordering) → order f x ≡ o → Ascends Before (inserted f xs) → Ascends Before (by_order o f x xs (inserted f xs))
    split Less o behind = (λ g i. ⊎_elim (λ e. subst (Before f) (sym e) o) (λ j. order_total.trans f x g o (a.0 g j)) i, a)
    split Equal o behind = a
    split Greater o behind =
        let b : Before x f = order_total.antisymm x f ∙ ap ordering_reverse o in
        (λ g i. ⊎_elim (λ e. subst (Before x) (sym e) b) (a.0 g) (from_inserted f xs g i), behind)

pub sorted-ascends : (xs : List Firing) → Ascends Before (sorted xs)
sorted-ascends [] = tt
sorted-ascends (x ∷ xs) = inserted-ascends x (sorted xs) (sorted-ascends xs)

pub from_sorted : (xs : List Firing) (g : Firing) → g ∈ sorted xs → g ∈ xs
from_sorted [] g i = i
from_sorted (x ∷ xs) g i = ⊎_elim inl (λ j. inr (from_sorted xs g j)) (from_inserted x (sorted xs) g i)

pub in_sorted : (xs : List Firing) → ((f g : Firing) → f ∈ xs → g ∈ xs → order f g ≡ Equal → f ≡ g) → (g : Firing) → g ∈ xs → g ∈ sorted xs
unfolding Ties
in_sorted [] one g i = i
in_sorted (x ∷ xs) one g i =
    in_inserted x (sorted xs) (λ y j. one x y (inl refl) (inr (from_sorted xs y j))) g
    (⊎_elim inl (λ j. inr (in_sorted xs (λ p q a b. one p q (inr a) (inr b)) g j)) i)
