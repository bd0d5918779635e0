-- What follows from growth: earlier graphs are within later ones, and one firing more may follow.
use Rattle.std.proofs.Common.{◌≡◌, ℕ, List, [], ◌∷◌, ◌++◌, refl, sym, ap, subst, inl, inr, ⊎_elim, arith}
use Rattle.qs_tree.specs.Lists.{◌∈◌}
use Rattle.qs_tree.proofs.Members.{from_append}
use Rattle.qs_pattern.specs.Rules.{Rule}
use Rattle.qs_graph.specs.Graphs.{Arc, QGraph, IsPath}
use Rattle.qs_firing.specs.Firings.{Firing, Fires}
use Rattle.qs_firing.specs.Adding.{start_of, end_of, adds}
use Rattle.qs_firing.proofs.Within.{IsWithin, within_refl, within_trans, within_adds}
use Rattle.qs_core.specs.Growth.{Grown, DoneAt, AllApart}

pub start_is : (arcs : List Arc) (a : ℕ) (path : List ℕ) (b : ℕ) → IsPath arcs a path b → start_of arcs path ≡ a
start_is arcs a [] b p = absurd (omega (arith, p.some))
start_is arcs a (k ∷ ks) b p = let (arc, is, e, l) = p.leads in rw is e

pub end_is : (arcs : List Arc) (a : ℕ) (path : List ℕ) (b : ℕ) → IsPath arcs a path b → end_of arcs path ≡ b
end_is arcs a [] b p = absurd (omega (arith, p.some))
end_is arcs a (k ∷ []) b p = let (arc, is, e, l) = p.leads in rw is l
end_is arcs a (k ∷ m ∷ ks) b p =
    let (arc, is, e, l) = p.leads in end_is arcs arc.to (m ∷ ks) b (record { some = omega arith; leads = l })

module _ (R : List Rule) where
  pub grown_within : (G : QGraph) (fs : List Firing) (H : QGraph) → Grown R G fs H → IsWithin G H
  grown_within G [] H e = within_refl G H e
  grown_within G (f ∷ fs) H (r, g) = within_trans (within_adds R G f) (grown_within (adds R G f) fs H g)

  -- one more firing
  pub grown_more : (G : QGraph) (fs : List Firing) (H : QGraph) (f : Firing) → Grown R G fs H → Fires R H.arcs f → Grown R G (fs ++ f ∷ []) (adds R H f)
  grown_more G [] H f e r = (subst (λ (X : QGraph). Fires R X.arcs f) (sym e) r, ap (λ (X : QGraph). adds R X f) e)
  grown_more G (g ∷ fs) H f (q, t) r = (q, grown_more (adds R G g) fs H f t r)

  pub at_more : (G : QGraph) (xs ys : List Firing) (f : Firing) (P : QGraph) → DoneAt R G xs f P → DoneAt R G (xs ++ ys) f P
  at_more G [] ys f P a = absurd a
  at_more G (x ∷ xs) ys f P (inl e) = inl e
  at_more G (x ∷ xs) ys f P (inr a) = inr (at_more (adds R G x) xs ys f P a)

  -- the last of the firings is added to what the others led to
  pub at_last : (G : QGraph) (fs : List Firing) (H : QGraph) (f : Firing) → Grown R G fs H → DoneAt R G (fs ++ f ∷ []) f H
  at_last G [] H f e = inl (refl, sym e)
  at_last G (g ∷ fs) H f (r, t) = inr (at_last (adds R G g) fs H f t)

pub apart_more : {X : Type 0} (xs : List X) (x : X) → AllApart xs → (x ∈ xs → ⊥) → AllApart (xs ++ x ∷ [])
apart_more [] x a n = ((λ i. i), tt)
apart_more (y ∷ xs) x a n =
    ((λ i. ⊎_elim a.0 (⊎_elim (λ e. n (inl (sym e))) (λ j. j)) (from_append xs (x ∷ []) y i)), apart_more xs x a.1 (λ i. n (inr i)))
