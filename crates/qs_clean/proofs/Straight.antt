-- Cleaning where every arc leads from the node 1 to the node 2, and the first arc alone is denoted.
use Rattle.std.proofs.Common.{◌≡◌, ℕ, ◌<◌, List, [], ◌∷◌, refl, sym, ◌∙◌, ◌↔◌, subst, inl, inr, ⊎_elim, arith, Some, slice_get}
use Rattle.std.proofs.lemmas.Bool.{cases_lt}
use Rattle.qs_tree.specs.Lists.{◌∈◌}
use Rattle.qs_graph.specs.Graphs.{Arc}
use Rattle.qs_firing.specs.Firings.{Firing}
use Rattle.qs_canon.specs.Rounds.{Stage, firings}
use Rattle.qs_clean.specs.Cleaning.{IsDenoted, Stays, IsEndOf}
use Rattle.qs_tree.proofs.Members.{in_at}

-- what holds of the first and of the others holds of each
pub each_of : {T : Type 0} (P : T → Type 0) (x : T) (xs : List T) → P x → ((y : T) → y ∈ xs → P y) → (y : T) → y ∈ (x ∷ xs) → P y
each_of P x xs p q y (inl e) = subst P (sym e) p
each_of P x xs p q y (inr i) = q y i

abbrev pub IsStraight : Arc → Type 0
IsStraight arc = (arc.from ≡ 1) × (arc.to ≡ 2)

pub ends_are : (arcs : List Arc) → ((arc : Arc) → arc ∈ arcs → IsStraight arc) → (arc : Arc) → arc ∈ arcs → (n : ℕ) → n ∈ (1 ∷ 2 ∷ []) ↔ IsEndOf arcs n
ends_are arcs straight arc i n = (to, from)
  where
    to : n ∈ (1 ∷ 2 ∷ []) → IsEndOf arcs n
    to (inl e) = (arc, i, inl (e ∙ sym (straight arc i).0))
    to (inr (inl e)) = (arc, i, inr (e ∙ sym (straight arc i).1))
    to (inr (inr h)) = absurd h

    from : IsEndOf arcs n → n ∈ (1 ∷ 2 ∷ [])
    from (a, j, inl e) = inl (e ∙ (straight a j).0)
    from (a, j, inr e) = inr (inl (e ∙ (straight a j).1))

module _ (S : Stage) (nodes : S.graph.nodes ≡ 2) (straight : (arc : Arc) → arc ∈ S.graph.arcs → IsStraight arc) (paths : (f : Firing) → f ∈ firings S → f.path ≡ 0 ∷ []) where
  undenoted : (k : ℕ) → 0 < k → IsDenoted S k → ⊥
  undenoted k h d = ⊎_elim (λ e. omega arith) (λ i. i) (let u : k ∈ (0 ∷ []) = subst (λ ks. k ∈ ks) (paths d.by d.done) d.used in u)

  -- every other arc stays
  pub other_stays : (k : ℕ) (arc : Arc) → slice_get S.graph.arcs k ≡ Some arc → 0 < k → Stays S k
  other_stays k arc is h =
      let s = straight arc (in_at S.graph.arcs k arc is) in
      record {
        entry = 1;
        exit = 2;
        path = k ∷ [];
        is_entry = record { node = (omega arith, omega arith); none_in = λ a i e. let t = (straight a i).1 in omega arith };
        is_exit = record { node = (omega arith, omega arith); none_out = λ a i e. let t = (straight a i).0 in omega arith };
        leads = record { some = omega arith; leads = (arc, is, s.0, s.1) };
        undenoted = λ j i d. ⊎_elim (λ e. undenoted k h (subst (IsDenoted S) e d)) (λ no_more. no_more) i;
        on = inl refl;
      }

  -- the first goes
  pub first_goes : (k : ℕ) → IsDenoted S 0 → Stays S k → 0 < k
  first_goes k d s = ⊎_elim (λ l. l) (λ l. absurd (s.undenoted k s.on (let e : 0 ≡ k = omega arith in subst (IsDenoted S) e d))) (cases_lt 0 k)
