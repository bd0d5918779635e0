-- The last places of numbers in a list, as it grows.
use Rattle.std.proofs.Common.{◌≡◌, ℕ, ◌+◌, ◌<◌, ⊎_elim, List, [], ◌∷◌, ◌++◌, length, take, set, replicate, get_or, Option, Some, None, slice_get, refl, sym, ap, ◌∙◌, subst, arith, length-set}
use Rattle.std.proofs.Math.Seq.{take-append_seam}
use Rattle.std.proofs.lemmas.List.{take_more, take-append-le, length-take-le, length-replicate, get_or_default, get_or-replicate, get_or-set_same, get_or-set_other, get_or_append_left, get_or_push, length_push}
use Rattle.std.proofs.lemmas.Option.{slice_get_within}
use Rattle.qs_tree.proofs.Decisions.{decide_number}
use Rattle.qs_firing.specs.Neighbours.{IsLastPlace}
use Rattle.qs_firing.proofs.Placing.{in_more, last_here, last_kept}
use Rattle.qs_levels.specs.working.Steps.{AreChains}

-- no number has a place in the empty list
pub no_chains : (limit : ℕ) (last before : List (Option ℕ)) → last ≡ replicate limit None → before ≡ [] → AreChains limit [] last before
no_chains limit last before e f = record {
  long_last = ap length e ∙ length-replicate limit None;
  long_before = ap length f;
  last_of = λ n h. subst (IsLastPlace [] n) (sym (ap (λ os. get_or os n None) e ∙ get_or-replicate limit n None None h)) (λ k g. cc);
  before_of = λ k n g. absurd cc;
}

-- one number more
module _ (limit : ℕ) (ns : List ℕ) (n : ℕ) (last before : List (Option ℕ)) (c : AreChains limit ns last before) (low : n < limit) where
  pub more_chains : (new_before : List (Option ℕ)) → new_before ≡ before ++ get_or last n None ∷ [] → AreChains limit (ns ++ n ∷ []) (set last n (Some (length ns))) new_before
  more_chains new_before e = record {
    long_last = length-set last n (Some (length ns)) ∙ c.long_last;
    long_before = ap length e ∙ length_push before (get_or last n None) ∙ ap (λ k. k + 1) c.long_before ∙ sym (length_push ns n);
    last_of = λ m h. by m h (decide_number m n);
    before_of = λ k m g. ⊎_elim (old k m g) (λ (p, q). new k m p q) (in_more ns n k m g);
  }
    where
      long : n < length last
      long = omega (arith, c.long_last)

      by : (m : ℕ) → m < limit → Dec (m ≡ n) → IsLastPlace (ns ++ n ∷ []) m (get_or (set last n (Some (length ns))) m None)
      by m h (yes s) = subst (λ j. IsLastPlace (ns ++ n ∷ []) j (get_or (set last n (Some (length ns))) j None)) (sym s)
          (subst (IsLastPlace (ns ++ n ∷ []) n) (sym (get_or-set_same last n (Some (length ns)) None (omega (arith, c.long_last)))) (last_here ns n))
      by m h (no f) = subst (IsLastPlace (ns ++ n ∷ []) m) (sym (get_or-set_other last n m (Some (length ns)) None f)) (last_kept ns n m (λ s. f (sym s)) (get_or last m None) (c.last_of m h))

      old : (k m : ℕ) → slice_get (ns ++ n ∷ []) k ≡ Some m → slice_get ns k ≡ Some m → IsLastPlace (take k (ns ++ n ∷ [])) m (get_or new_before k None)
      old k m g h =
          let within = slice_get_within ns k m h in
          let front : take k (ns ++ n ∷ []) ≡ take k ns = take-append-le k ns (n ∷ []) (omega arith) in
          let same : get_or new_before k None ≡ get_or before k None = ap (λ os. get_or os k None) e ∙ get_or_append_left before (get_or last n None ∷ []) None k (omega (arith, c.long_before)) in
          subst (λ ms. IsLastPlace ms m (get_or new_before k None)) (sym front) (subst (IsLastPlace (take k ns) m) (sym same) (c.before_of k m h))

      new : (k m : ℕ) → k ≡ length ns → m ≡ n → IsLastPlace (take k (ns ++ n ∷ [])) m (get_or new_before k None)
      new k m p q =
          let whole : take k (ns ++ n ∷ []) ≡ ns = ap (λ j. take j (ns ++ n ∷ [])) p ∙ take-append_seam ns (n ∷ []) in
          let same : get_or new_before k None ≡ get_or last n None = ap (λ os. get_or os k None) e ∙ get_or_push before (get_or last n None) None k (c.long_before ∙ sym p) in
          subst (λ ms. IsLastPlace ms m (get_or new_before k None)) (sym whole)
          (subst (IsLastPlace ns m) (sym same) (subst (λ j. IsLastPlace ns j (get_or last n None)) (sym q) (c.last_of n low)))

-- the same for the next member of a list
pub next_chains : (limit : ℕ) (all : List ℕ) (i n : ℕ) (last before new_last new_before : List (Option ℕ)) (was : Option ℕ) → i < length all → n ≡ get_or all i 0 → n < limit
    → was ≡ get_or last n was → new_before ≡ before ++ was ∷ [] → new_last ≡ set last n (Some i)
    → AreChains limit (take i all) last before → AreChains limit (take (i + 1) all) new_last new_before
next_chains limit all i n last before new_last new_before was here read low at e f c =
    let more : take (i + 1) all ≡ take i all ++ n ∷ [] = take_more all i 0 here ∙ ap (λ m. take i all ++ m ∷ []) (sym read) in
    let long : length (take i all) ≡ i = length-take-le i all (omega arith) in
    let is : get_or last n was ≡ get_or last n None = get_or_default last n was None (omega (arith, c.long_last)) in
    let pushed : new_before ≡ before ++ get_or last n None ∷ [] = e ∙ ap (λ o. before ++ o ∷ []) (at ∙ is) in
    let written : new_last ≡ set last n (Some (length (take i all))) = f ∙ ap (λ j. set last n (Some j)) (sym long) in
    subst (λ ms. AreChains limit ms new_last new_before) (sym more)
    (subst (λ os. AreChains limit (take i all ++ n ∷ []) os new_before) (sym written) (more_chains limit (take i all) n last before c low new_before pushed))

-- what holds of no number alone holds of none
pub only_none : (P : Option ℕ → Type 0) → ((x : ℕ) → P (Some x) → ⊥) → (o : Option ℕ) → P o → o ≡ None
only_none P never None h = refl
only_none P never (Some x) h = absurd (never x h)
