-- Lists of numbers in dictionary order.
use Rattle.std.proofs.Common.{◌≡◌, ◌<◌, ◌⊎◌, ℕ, List, [], ◌∷◌, ◌++◌, Ordering, refl, sym, ◌∙◌, ap, subst, inl, inr, ⊎_elim}
use Rattle.std.specs.declared.cmp.Ordering.TheVariants.{Less, Equal, Greater}
use Rattle.std.specs.Ordering.{ordering_reverse, ordering_then, nat_cmp}
use Rattle.std.specs.Cmp.{nat_cmp_is}
use Rattle.std.specs.Cmp.Lexicographic.{slice_cmp}
use Rattle.std.proofs.lemmas.Cmp.{nat_list_cmp_total}
use Rattle.std.proofs.lemmas.Bool.{cases_order}
use Rattle.qs_phrase.specs.Readings.{IsBefore}
use Rattle.qs_phrase.specs.working.Walking.{IsUpTo}

-- lists that first differ at one place are in the order of that place
pub before_here : (x y : ℕ) (xs ys : List ℕ) → x < y → IsBefore (x ∷ xs) (y ∷ ys)
before_here x y xs ys h = ap (λ o. ordering_then o (slice_cmp nat_cmp xs ys)) (sym (nat_cmp_is x y Less h))

pub before_behind : (x : ℕ) (xs ys : List ℕ) → IsBefore xs ys → IsBefore (x ∷ xs) (x ∷ ys)
before_behind x xs ys h = ap (λ o. ordering_then o (slice_cmp nat_cmp xs ys)) (sym (nat_cmp_is x x Equal refl)) ∙ h

pub before_parts : (x y : ℕ) (xs ys : List ℕ) → IsBefore (x ∷ xs) (y ∷ ys) → (x < y) ⊎ ((x ≡ y) × IsBefore xs ys)
before_parts x y xs ys h = ⊎_elim same (⊎_elim inl other) (cases_order x y)
  where
    then_rest : Ordering → Ordering
    then_rest o = ordering_then o (slice_cmp nat_cmp xs ys)

    same : x ≡ y → (x < y) ⊎ ((x ≡ y) × IsBefore xs ys)
    same e = inr (e, ap (λ o. ordering_then o (slice_cmp nat_cmp xs ys)) (nat_cmp_is x y Equal e) ∙ h)

    other : y < x → (x < y) ⊎ ((x ≡ y) × IsBefore xs ys)
    other l = absurd (let g : Greater ≡ Less = ap (λ o. ordering_then o (slice_cmp nat_cmp xs ys)) (nat_cmp_is x y Greater l) ∙ h in cc)

pub before_front : (front xs ys : List ℕ) → IsBefore xs ys → IsBefore (front ++ xs) (front ++ ys)
before_front [] xs ys h = h
before_front (x ∷ front) xs ys h = before_behind x (front ++ xs) (front ++ ys) (before_front front xs ys h)

pub before_trans : (xs ys zs : List ℕ) → IsBefore xs ys → IsBefore ys zs → IsBefore xs zs
before_trans xs ys zs g h = nat_list_cmp_total.trans xs ys zs g h

pub never_both : (xs ys : List ℕ) → IsBefore xs ys → IsBefore ys xs → ⊥
never_both xs ys g h =
    let e : Less ≡ ordering_reverse Less = sym g ∙ nat_list_cmp_total.antisymm xs ys ∙ ap ordering_reverse h in
    cc

pub never_itself : (xs : List ℕ) → IsBefore xs xs → ⊥
never_itself xs h = never_both xs xs h h

pub not_back : (xs ys : List ℕ) → IsUpTo xs ys → IsBefore ys xs → ⊥
not_back xs ys (inl e) h = never_itself ys (subst (IsBefore ys) e h)
not_back xs ys (inr g) h = never_both xs ys g h

pub before_up_to : (xs ys zs : List ℕ) → IsBefore xs ys → IsUpTo ys zs → IsBefore xs zs
before_up_to xs ys zs g (inl e) = subst (IsBefore xs) e g
before_up_to xs ys zs g (inr h) = before_trans xs ys zs g h

pub up_to_behind : (x : ℕ) (xs ys : List ℕ) → IsUpTo xs ys → IsUpTo (x ∷ xs) (x ∷ ys)
up_to_behind x xs ys (inl e) = inl (ap (λ zs. x ∷ zs) e)
up_to_behind x xs ys (inr h) = inr (before_behind x xs ys h)
