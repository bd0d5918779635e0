-- Lists of numbers in which each number's last place is known, with one number more or less.
use Rattle.std.proofs.Common.{◌≡◌, ◌≢◌, ℕ, zero, suc, ◌-◌, ◌<◌, ◌≤◌, ◌^◌, ◌⊎◌, inl, inr, ⊎_elim, Bool, true, false, cond, nat_eq, List, [], ◌∷◌, ◌++◌, length, take, Option, Some, None, slice_get, refl, sym, ap, ◌∙◌, subst, arith, length-append, eqb-true, eq-eqb}
use Rattle.std.proofs.Math.Seq.{take-append_seam}
use Rattle.std.proofs.lemmas.List.{take-append-le, map-append, length-map}
use Rattle.std.proofs.lemmas.Option.{slice_get_within}
use Rattle.qs_graph.proofs.Paths.{slice_get-append}
use Rattle.qs_firing.proofs.Merging.{at_seam}
use Rattle.qs_firing.specs.declared.places.Place.{Place}
use Rattle.qs_firing.specs.Neighbours.{IsLastPlace}
use Rattle.qs_firing.specs.working.Places.{numbers_at, IsPlaced}

-- at a place of a list with one more member stands an old one, or the new one
pub in_more : {X : Type 0} (xs : List X) (x : X) (k : ℕ) (y : X) → slice_get (xs ++ x ∷ []) k ≡ Some y → (slice_get xs k ≡ Some y) ⊎ ((k ≡ length xs) × (y ≡ x))
in_more [] x zero y e = let same : x ≡ y = cc in inr (refl, sym same)
in_more [] x (suc k) y e = absurd cc
in_more (z ∷ xs) x zero y e = inl e
in_more (z ∷ xs) x (suc k) y e = ⊎_elim inl (λ (p, q). inr (ap suc p, q)) (in_more xs x k y e)

-- where the number is put behind the list, that is its last place
pub last_here : (ns : List ℕ) (n : ℕ) → IsLastPlace (ns ++ n ∷ []) n (Some (length ns))
last_here ns n = (
  at_seam ns n [],
  λ j e. ⊎_elim (λ h. let l = slice_get_within ns j n h in omega arith) (λ (p, q). omega arith) (in_more ns n j n e),
)

-- and each other number keeps its own
pub last_kept : (ns : List ℕ) (n m : ℕ) → n ≢ m → (o : Option ℕ) → IsLastPlace ns m o → IsLastPlace (ns ++ n ∷ []) m o
last_kept ns n m apart None x = λ k e. ⊎_elim (λ h. x k h) (λ (p, q). apart (sym q)) (in_more ns n k m e)
last_kept ns n m apart (Some k) x = (
  slice_get-append ns (n ∷ []) k m x.0,
  λ j e. ⊎_elim (λ h. x.1 j h) (λ (p, q). absurd (apart (sym q))) (in_more ns n j m e),
)

-- the same backwards
last_left : (ns : List ℕ) (n m : ℕ) → n ≢ m → (o : Option ℕ) → IsLastPlace (ns ++ n ∷ []) m o → IsLastPlace ns m o
last_left ns n m apart None x = λ k e. x k (slice_get-append ns (n ∷ []) k m e)
last_left ns n m apart (Some k) x = (
  ⊎_elim (λ h. h) (λ (p, q). absurd (apart (sym q))) (in_more ns n k m x.0),
  λ j e. x.1 j (slice_get-append ns (n ∷ []) j m e),
)

-- a test of numbers, by its answer
pub by_answer : (n m : ℕ) → ((n ≡ m) × (nat_eq n m ≡ true)) ⊎ ((n ≢ m) × (nat_eq n m ≡ false))
by_answer n m = by (nat_eq n m) refl
  where
    by : (b : Bool) → nat_eq n m ≡ b → ((n ≡ m) × (nat_eq n m ≡ true)) ⊎ ((n ≢ m) × (nat_eq n m ≡ false))
    by true e = inl (eqb-true n m e, e)
    by false e = inr (λ h. let t : true ≡ false = sym (eq-eqb n m h) ∙ e in absurd cc, e)

module _ (places : List Place) (p : Place) where
  numbers_more : numbers_at (places ++ p ∷ []) ≡ numbers_at places ++ p.number ∷ []
  numbers_more = map-append (λ (q : Place). q.number) places (p ∷ [])

  long : length (numbers_at places) ≡ length places
  long = length-map places (λ (q : Place). q.number)

  -- what stands before a place of the list is the same in the longer list
  front : (k : ℕ) → k ≤ length places → take k (numbers_at (places ++ p ∷ [])) ≡ take k (numbers_at places)
  front k h = ap (take k) numbers_more ∙ take-append-le k (numbers_at places) (p.number ∷ []) (omega (arith, long))

  whole : take (length places) (numbers_at (places ++ p ∷ [])) ≡ numbers_at places
  whole = ap (take (length places)) numbers_more ∙ ap (λ k. take k (numbers_at places ++ p.number ∷ [])) (sym long) ∙ take-append_seam (numbers_at places) (p.number ∷ [])

  pub placed_more : (last after : ℕ → Option ℕ) → IsPlaced places last → length places < 2 ^ 32 - 1 → IsLastPlace (numbers_at places) p.number p.before
      → ((n : ℕ) → after n ≡ cond (nat_eq p.number n) (Some (length places)) (last n)) → IsPlaced (places ++ p ∷ []) after
  placed_more last after x room is new = record {
    few = omega (arith, length-append places (p ∷ []));
    before = λ k q e. ⊎_elim
        (λ h. let l = slice_get_within places k q h in subst (λ ns. IsLastPlace ns q.number q.before) (sym (front k (omega arith))) (x.before k q h))
        (λ (a, b). subst (λ (r : Place). IsLastPlace (take k (numbers_at (places ++ p ∷ []))) r.number r.before) (sym b)
        (subst (λ ns. IsLastPlace ns p.number p.before) (sym (ap (λ j. take j (numbers_at (places ++ p ∷ []))) a ∙ whole)) is))
        (in_more places p k q e);
    last = λ n. subst (λ ns. IsLastPlace ns n (after n)) (sym numbers_more) (⊎_elim
        (λ (e, t). subst (IsLastPlace (numbers_at places ++ p.number ∷ []) n) (sym (new n ∙ ap (λ b. cond b (Some (length places)) (last n)) t ∙ ap (λ k. Some k) (sym long)))
        (subst (λ m. IsLastPlace (numbers_at places ++ p.number ∷ []) m (Some (length (numbers_at places)))) e (last_here (numbers_at places) p.number)))
        (λ (d, f). subst (IsLastPlace (numbers_at places ++ p.number ∷ []) n) (sym (new n ∙ ap (λ b. cond b (Some (length places)) (last n)) f))
        (last_kept (numbers_at places) p.number n d (last n) (x.last n)))
        (by_answer p.number n));
  }

  pub placed_less : (last after : ℕ → Option ℕ) → IsPlaced (places ++ p ∷ []) last → ((n : ℕ) → after n ≡ cond (nat_eq p.number n) p.before (last n)) → IsPlaced places after
  placed_less last after x old = record {
    few = (let f = x.few in omega (arith, length-append places (p ∷ [])));
    before = λ k q e. let l = slice_get_within places k q e in
        subst (λ ns. IsLastPlace ns q.number q.before) (front k (omega arith)) (x.before k q (slice_get-append places (p ∷ []) k q e));
    last = λ n. ⊎_elim
        (λ (e, t). subst (IsLastPlace (numbers_at places) n) (sym (old n ∙ ap (λ b. cond b p.before (last n)) t))
        (subst (λ m. IsLastPlace (numbers_at places) m p.before) e (subst (λ ns. IsLastPlace ns p.number p.before) whole (x.before (length places) p (at_seam places p [])))))
        (λ (d, f). subst (IsLastPlace (numbers_at places) n) (sym (old n ∙ ap (λ b. cond b p.before (last n)) f))
        (last_left (numbers_at places) p.number n d (last n) (subst (λ ns. IsLastPlace ns n (last n)) numbers_more (x.last n))))
        (by_answer p.number n);
  }

  -- the last number has a last place
  pub has_place : (last : ℕ → Option ℕ) → IsPlaced (places ++ p ∷ []) last → last p.number ≡ None → ⊥
  has_place last x none =
      let stands : slice_get (numbers_at places ++ p.number ∷ []) (length (numbers_at places)) ≡ Some p.number = at_seam (numbers_at places) p.number [] in
      let nowhere = subst (IsLastPlace (numbers_at (places ++ p ∷ [])) p.number) none (x.last p.number) in
      nowhere (length (numbers_at places)) (subst (λ ns. slice_get ns (length (numbers_at places)) ≡ Some p.number) (sym numbers_more) stands)

-- the same for a list that is known to have one more at its end
pub push_keeps : (places more : List Place) (p : Place) (last after : ℕ → Option ℕ) → more ≡ places ++ p ∷ [] → IsPlaced places last → length places < 2 ^ 32 - 1
    → IsLastPlace (numbers_at places) p.number p.before → ((n : ℕ) → after n ≡ cond (nat_eq p.number n) (Some (length places)) (last n)) → IsPlaced more after
push_keeps places more p last after e x room is new = subst (λ ps. IsPlaced ps after) (sym e) (placed_more places p last after x room is new)

pub pop_keeps : (places less : List Place) (p : Place) (last after : ℕ → Option ℕ) → places ≡ less ++ p ∷ [] → IsPlaced places last
    → ((n : ℕ) → after n ≡ cond (nat_eq p.number n) p.before (last n)) → IsPlaced less after
pop_keeps places less p last after e x old = placed_less less p last after (subst (λ ps. IsPlaced ps last) e x) old

pub never_absent : (places less : List Place) (p : Place) (last : ℕ → Option ℕ) → places ≡ less ++ p ∷ [] → IsPlaced places last → last p.number ≡ None → ⊥
never_absent places less p last e x none = has_place less p last (subst (λ ps. IsPlaced ps last) e x) none
