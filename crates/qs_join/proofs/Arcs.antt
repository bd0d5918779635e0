-- Paths over the first arcs of a list.
use Rattle.std.proofs.Common.{◌≡◌, ℕ, zero, suc, ◌<◌, inl, inr, List, [], ◌∷◌, map, take, drop, slice_get, refl, ap, ◌∙◌, subst, arith}
use Rattle.std.specs.List.{cons_option}
use Rattle.std.proofs.lemmas.List.{take-append-drop}
use Rattle.qs_graph.specs.Graphs.{Arc, Leads, arcs_at, trees_on}
use Rattle.qs_graph.proofs.Paths.{leads_more}
use Rattle.qs_join.specs.working.Searching.{AreUpTo}

pub slice_get-front : {X : Type 0} (xs : List X) (j k : ℕ) → k < j → slice_get (take j xs) k ≡ slice_get xs k
slice_get-front [] zero k h = refl
slice_get-front [] (suc j) k h = refl
slice_get-front (x ∷ xs) zero k h = absurd (omega arith)
slice_get-front (x ∷ xs) (suc j) zero h = refl
slice_get-front (x ∷ xs) (suc j) (suc k) h = slice_get-front xs j k (omega arith)

module _ (arcs : List Arc) (m : ℕ) where
  pub leads_within : (a : ℕ) (ks : List ℕ) (b : ℕ) → AreUpTo m ks → Leads arcs a ks b → Leads (take (suc m) arcs) a ks b
  leads_within a [] b few l = l
  leads_within a (k ∷ ks) b few (arc, at, f, l) =
      let low = few k (inl refl) in
      (arc, slice_get-front arcs (suc m) k (omega arith) ∙ at, f, leads_within arc.to ks b (λ j i. few j (inr i)) l)

  pub leads_beyond : (a : ℕ) (ks : List ℕ) (b : ℕ) → Leads (take (suc m) arcs) a ks b → Leads arcs a ks b
  leads_beyond a ks b l = subst (λ xs. Leads xs a ks b) (take-append-drop (suc m) arcs) (leads_more (take (suc m) arcs) (drop (suc m) arcs) a ks b l)

  arcs_within : (ks : List ℕ) → AreUpTo m ks → arcs_at (take (suc m) arcs) ks ≡ arcs_at arcs ks
  arcs_within [] few = refl
  arcs_within (k ∷ ks) few =
      let low = few k (inl refl) in
      ap (λ o. cons_option o (arcs_at (take (suc m) arcs) ks)) (slice_get-front arcs (suc m) k (omega arith))
      ∙ ap (λ xs. cons_option (slice_get arcs k) xs) (arcs_within ks (λ j i. few j (inr i)))

  pub trees_within : (ks : List ℕ) → AreUpTo m ks → trees_on (take (suc m) arcs) ks ≡ trees_on arcs ks
  trees_within ks few = ap (map (λ (x : Arc). x.tree)) (arcs_within ks few)
