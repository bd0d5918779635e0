-- The order of firings.
use Rattle.std.proofs.Common.{◌≡◌, ◌⊎◌, List, [], ◌∷◌, Ordering, refl, sym, ◌∙◌, ap, inl, inr, ⊎_elim, ℕ, ◌<◌}
use Rattle.std.specs.declared.cmp.Ordering.TheVariants.{Less, Equal, Greater}
use Rattle.std.specs.Ordering.{ordering_reverse, ordering_then, nat_cmp}
use Rattle.std.specs.Cmp.{IsTotalOrder, nat_cmp_is}
use Rattle.std.specs.Cmp.Lexicographic.{slice_cmp}
use Rattle.std.proofs.lemmas.Cmp.{on_total, lists_total, nat_list_cmp_total}
use Rattle.std.proofs.lemmas.Bool.{cases_order}
use Rattle.qs_firing.specs.Firings.{Firing, Before, order, key}

pub order_total : IsTotalOrder order
order_total = on_total key (lists_total nat_list_cmp_total)

-- of two firings at most one comes before the other
pub Before-asym : (f g : Firing) → Before f g → Before g f → ⊥
Before-asym f g fg gf =
    let e : Less ≡ ordering_reverse Less = sym fg ∙ order_total.antisymm f g ∙ ap ordering_reverse gf in
    cc

then_equal : (o p : Ordering) → ordering_then o p ≡ Equal → (o ≡ Equal) × (p ≡ Equal)
then_equal Less p e = absurd cc
then_equal Equal p e = (refl, e)
then_equal Greater p e = absurd cc

pub same_from_nat_cmp : (x y : ℕ) → nat_cmp x y ≡ Equal → x ≡ y
same_from_nat_cmp x y e = ⊎_elim (λ same. same) (λ other. absurd (⊎_elim less greater other)) (cases_order x y)
  where
    less : x < y → ⊥
    less h = let l : Less ≡ nat_cmp x y = nat_cmp_is x y Less h in cc

    greater : y < x → ⊥
    greater h = let l : Greater ≡ nat_cmp x y = nat_cmp_is x y Greater h in cc

pub same_from_slice_cmp : {K : Type 0} (R : K → K → Ordering) → ((x y : K) → R x y ≡ Equal → x ≡ y) → (xs ys : List K) → slice_cmp R xs ys ≡ Equal → xs ≡ ys
same_from_slice_cmp R one [] [] e = refl
same_from_slice_cmp R one [] (y ∷ ys) e = absurd cc
same_from_slice_cmp R one (x ∷ xs) [] e = absurd cc
same_from_slice_cmp R one (x ∷ xs) (y ∷ ys) e =
    let (a, b) = then_equal (R x y) (slice_cmp R xs ys) e in
    let p : x ≡ y = one x y a in
    let q : xs ≡ ys = same_from_slice_cmp R one xs ys b in
    cc

-- firings that tie have equal keys
pub same_key : (f g : Firing) → order f g ≡ Equal → key f ≡ key g
same_key f g e = same_from_slice_cmp (slice_cmp nat_cmp) (same_from_slice_cmp nat_cmp same_from_nat_cmp) (key f) (key g) e

pub total : (f g : Firing) → (Before f g ⊎ Before g f) ⊎ (key f ≡ key g)
total f g = by (order f g) refl
  where
    by : (o : Ordering) → order f g ≡ o → (Before f g ⊎ Before g f) ⊎ (key f ≡ key g)
    by Less e = inl (inl e)
    by Equal e = inr (same_key f g e)
    by Greater e = inl (inr (order_total.antisymm g f ∙ ap ordering_reverse e))

pub apart : (f g : Firing) → Before f g → key f ≡ key g → ⊥
apart f g b e =
    let tie : Less ≡ slice_cmp (slice_cmp nat_cmp) (key g) (key g) = sym b ∙ ap (λ k. slice_cmp (slice_cmp nat_cmp) k (key g)) e in
    Before-asym g g (sym tie) (sym tie)
