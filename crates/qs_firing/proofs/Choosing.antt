-- The firings over some arcs of which something holds, in ascending order.
use Rattle.std.proofs.Common.{◌≡◌, List, [], ◌∷◌, sym, subst, inl, inr}
use Rattle.std.specs.declared.cmp.Ordering.TheVariants.{Equal}
use Rattle.qs_tree.specs.Lists.{◌∈◌, Ascends}
use Rattle.qs_pattern.specs.Rules.{Rule, AreLeftSidesInClass}
use Rattle.qs_graph.specs.Graphs.{Arc}
use Rattle.qs_firing.specs.Firings.{Firing, Fires, Before, order}
use Rattle.qs_firing.proofs.Orders.{same_key}
use Rattle.qs_firing.proofs.Keys.{one_firing}
use Rattle.qs_firing.proofs.Listing.{all_firings, is_listed}
use Rattle.qs_firing.proofs.Sorting.{sorted, sorted-ascends, from_sorted, in_sorted}

module _ {P : Firing → Type 0} (d : (f : Firing) → Dec (P f)) where
  abbrev pub chosen_if : {x : Firing} → Dec (P x) → List Firing → List Firing
  chosen_if {x} (yes p) rest = x ∷ rest
  chosen_if (no n) rest = rest

  -- the members of which P holds
  abbrev pub chosen : List Firing → List Firing
  chosen [] = []
  chosen (x ∷ xs) = chosen_if (d x) (chosen xs)

  from_chosen : (xs : List Firing) (f : Firing) → f ∈ chosen xs → P f
  from_chosen [] f i = absurd i
  from_chosen (x ∷ xs) f i = split (d x) i (from_chosen xs f)
    where
      split : (e : Dec (P x)) → f ∈ chosen_if e (chosen xs) → (f ∈ chosen xs → P f) → P f
      split (yes p) (inl e) behind = subst P (sym e) p
      split (yes p) (inr i) behind = behind i
      split (no n) i behind = behind i

  in_chosen : (xs : List Firing) (f : Firing) → f ∈ xs → P f → f ∈ chosen xs
  in_chosen [] f i p = i
  in_chosen (x ∷ xs) f i p = split (d x) i (λ j. in_chosen xs f j p)
    where
      split : (e : Dec (P x)) → f ∈ (x ∷ xs) → (f ∈ xs → f ∈ chosen xs) → f ∈ chosen_if e (chosen xs)
      split (yes q) (inl e) behind = inl e
      split (yes q) (inr i) behind = inr (behind i)
      split (no n) (inl e) behind = absurd (n (subst P e p))
      split (no n) (inr i) behind = behind i

  -- the firings of the rules over these arcs of which P holds
  abbrev pub firings_with : List Rule → List Arc → List Firing
  firings_with R arcs = sorted (chosen (all_firings 0 R arcs))

  module _ (R : List Rule) (arcs : List Arc) where
    pub with-ascends : Ascends Before (firings_with R arcs)
    with-ascends = sorted-ascends (chosen (all_firings 0 R arcs))

    pub from_with : (f : Firing) → f ∈ firings_with R arcs → P f
    from_with f i = from_chosen (all_firings 0 R arcs) f (from_sorted (chosen (all_firings 0 R arcs)) f i)

    module _ (ok : AreLeftSidesInClass R) (fires : (f : Firing) → P f → Fires R arcs f) where
      one : (f g : Firing) → f ∈ chosen (all_firings 0 R arcs) → g ∈ chosen (all_firings 0 R arcs) → order f g ≡ Equal → f ≡ g
      one f g i j e =
          one_firing R ok arcs f g
          (fires f (from_chosen (all_firings 0 R arcs) f i)) (fires g (from_chosen (all_firings 0 R arcs) g j)) (same_key f g e)

      pub in_with : (f : Firing) → P f → f ∈ firings_with R arcs
      in_with f p = in_sorted (chosen (all_firings 0 R arcs)) one f (in_chosen (all_firings 0 R arcs) f (is_listed R ok arcs f (fires f p)) p)
