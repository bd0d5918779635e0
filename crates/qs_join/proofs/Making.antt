-- Sorted firings, each once and with its trees, one after the other.
use Rattle.std.proofs.Common.{◌≡◌, suc, ◌-◌, ◌⊎◌, inl, inr, ⊎_elim, List, [], ◌∷◌, ◌++◌, length, map, Some, slice_get, refl, sym, ap, ◌∙◌, subst, arith}
use Rattle.std.specs.Ordering.{ordering_reverse}
use Rattle.std.specs.Option.{option_map}
use Rattle.std.specs.declared.cmp.Ordering.{Ordering}
use Rattle.std.specs.declared.cmp.Ordering.TheVariants.{Less, Equal, Greater}
use Rattle.std.proofs.lemmas.List.{map-append, length-map}
use Rattle.std.proofs.lemmas.Option.{slice_get-map}
use Rattle.qs_tree.specs.Lists.{◌∈◌, Ascends}
use Rattle.qs_tree.specs.Trees.{Tree}
use Rattle.qs_tree.proofs.Members.{in_append_left, in_append_right, from_append, in_at, in_map, mapped}
use Rattle.qs_match.proofs.Listed.{Ascends-append}
use Rattle.qs_pattern.specs.Rules.{Rule, AreLeftSidesInClass}
use Rattle.qs_graph.specs.Graphs.{Arc}
use Rattle.qs_firing.specs.Firings.{Firing, Fires, Before, order}
use Rattle.qs_firing.specs.Adding.{built}
use Rattle.qs_firing.specs.Work.{WithTrees}
use Rattle.qs_firing.proofs.Orders.{order_total, same_key}
use Rattle.qs_firing.proofs.Keys.{one_firing}
use Rattle.qs_join.specs.working.Sorting.{NeverFalls, Repeats, firings_of, AreMade}

-- one that stands behind others comes before none of them
behind : (seen more : List Firing) (f : Firing) → NeverFalls (seen ++ (f ∷ more)) → (g : Firing) → g ∈ seen → Before f g → ⊥
behind [] more f falls g i = absurd i
behind (h ∷ seen) more f falls g (inl e) = λ b. falls.0 f (in_append_right seen (f ∷ more) f (inl refl)) (subst (Before f) e b)
behind (h ∷ seen) more f falls g (inr i) = behind seen more f falls.1 g i

-- the last one of a list that isn't empty
last_of : {X : Type 0} (xs : List X) (x : X) → x ∈ xs → (y : X) × (slice_get xs (length xs - 1) ≡ Some y)
last_of [] x i = absurd i
last_of (y ∷ []) x i = (y, refl)
last_of (y ∷ z ∷ xs) x i =
    let (w, at) = last_of (z ∷ xs) z (inl refl) in
    let n : suc (length (z ∷ xs) - 1) ≡ length (y ∷ z ∷ xs) - 1 = omega arith in
    (w, subst (λ k. slice_get (y ∷ z ∷ xs) k ≡ Some w) n at)

-- in an ascending list each one is the last one or comes before it
to_last : (fs : List Firing) → Ascends Before fs → (l : Firing) → slice_get fs (length fs - 1) ≡ Some l → (g : Firing) → g ∈ fs → (g ≡ l) ⊎ Before g l
to_last [] a l at g i = absurd i
to_last (f ∷ []) a l at g (inl e) = let same : f ≡ l = cc in inl (e ∙ same)
to_last (f ∷ []) a l at g (inr i) = absurd i
to_last (f ∷ h ∷ fs) a l at g i =
    let n : length (f ∷ h ∷ fs) - 1 ≡ suc (length (h ∷ fs) - 1) = omega arith in
    let there : slice_get (h ∷ fs) (length (h ∷ fs) - 1) ≡ Some l = subst (λ k. slice_get (f ∷ h ∷ fs) k ≡ Some l) n at in
    ⊎_elim (λ e. inr (subst (λ x. Before x l) (sym e) (a.0 l (in_at (h ∷ fs) (length (h ∷ fs) - 1) l there))))
    (λ j. to_last (h ∷ fs) a.1 l there g j) i

-- nothing was made yet
pub none_made : (R : List Rule) → AreMade R [] []
none_made R = record { ascends = tt; sound = λ f i. i; all = λ f i. i; trees = λ m i. absurd i }

module _ (R : List Rule) (ok : AreLeftSidesInClass R) (arcs : List Arc) (every : List Firing) (fires : (f : Firing) → f ∈ every → Fires R arcs f) (falls : NeverFalls every)
    (seen more : List Firing) (f : Firing) (split : every ≡ seen ++ (f ∷ more)) where
  of_seen : (g : Firing) → g ∈ seen → g ∈ every
  of_seen g i = subst (λ fs. g ∈ fs) (sym split) (in_append_left seen (f ∷ more) g i)

  pub of_next : f ∈ every
  of_next = subst (λ fs. f ∈ fs) (sym split) (in_append_right seen (f ∷ more) f (inl refl))

  -- the next firing is the last one that was made
  pub made_before : (made : List WithTrees) → AreMade R seen made → Repeats made f → AreMade R (seen ++ f ∷ []) made
  made_before made x (last, at, tie) =
      let there : last.firing ∈ firings_of made = in_map (λ (m : WithTrees). m.firing) made last (in_at made (length made - 1) last at) in
      let same : last.firing ≡ f = one_firing R ok arcs last.firing f (fires last.firing (of_seen last.firing (x.sound last.firing there))) (fires f of_next) (same_key last.firing f tie) in
      record {
        ascends = x.ascends;
        sound = λ g i. in_append_left seen (f ∷ []) g (x.sound g i);
        all = λ g i. ⊎_elim (λ j. x.all g j) (λ d. ⊎_elim (λ e. subst (λ h. h ∈ firings_of made) (same ∙ sym e) there) (λ z. absurd z) d) (from_append seen (f ∷ []) g i);
        trees = x.trees;
      }

  -- those that were made come before the next firing, where it isn't the last one again
  before_next : (made : List WithTrees) → AreMade R seen made → (Repeats made f → ⊥) → (g : Firing) → g ∈ firings_of made → Before g f
  before_next made x fresh g i =
      let (m, j, e) = mapped (λ (w : WithTrees). w.firing) made g i in
      let (last, at) = last_of made m j in
      let there : last.firing ∈ firings_of made = in_map (λ (w : WithTrees). w.firing) made last (in_at made (length made - 1) last at) in
      let first : Before last.firing f = by last at (x.sound last.firing there) (order last.firing f) refl in
      let place : slice_get (firings_of made) (length (firings_of made) - 1) ≡ Some last.firing =
      ap (λ k. slice_get (firings_of made) (k - 1)) (length-map made (λ (w : WithTrees). w.firing)) ∙ slice_get-map (λ (w : WithTrees). w.firing) made (length made - 1) ∙ ap (option_map (λ (w : WithTrees). w.firing)) at in
      ⊎_elim (λ d. subst (λ h. Before h f) (sym d) first) (λ b. order_total.trans g last.firing f b first) (to_last (firings_of made) x.ascends last.firing place g i)
    where
      by : (last : WithTrees) → slice_get made (length made - 1) ≡ Some last → last.firing ∈ seen → (o : Ordering) → order last.firing f ≡ o → Before last.firing f
      by last at i Less e = e
      by last at i Equal e = absurd (fresh (last, at, e))
      by last at i Greater e = absurd (behind seen more f (subst NeverFalls split falls) last.firing i (order_total.antisymm f last.firing ∙ ap ordering_reverse e))

  pub made_now : (made new : List WithTrees) (ts : List Tree) → AreMade R seen made → (Repeats made f → ⊥) → new ≡ made ++ record { firing = f; trees = ts } ∷ [] → ts ≡ built R f → AreMade R (seen ++ f ∷ []) new
  made_now made new ts x fresh e is =
      let one : WithTrees = record { firing = f; trees = ts } in
      let names : firings_of new ≡ firings_of made ++ f ∷ [] = ap (map (λ (w : WithTrees). w.firing)) e ∙ map-append (λ (w : WithTrees). w.firing) made (one ∷ []) in
      record {
        ascends = subst (Ascends Before) (sym names) (Ascends-append Before (firings_of made) (f ∷ []) x.ascends ((λ g z. absurd z), tt)
            (λ g h i j. ⊎_elim (λ d. subst (Before g) (sym d) (before_next made x fresh g i)) (λ z. absurd z) j));
        sound = λ g i. ⊎_elim (λ j. in_append_left seen (f ∷ []) g (x.sound g j)) (λ j. in_append_right seen (f ∷ []) g j) (from_append (firings_of made) (f ∷ []) g (subst (λ fs. g ∈ fs) names i));
        all = λ g i. subst (λ fs. g ∈ fs) (sym names) (⊎_elim (λ j. in_append_left (firings_of made) (f ∷ []) g (x.all g j)) (λ j. in_append_right (firings_of made) (f ∷ []) g j) (from_append seen (f ∷ []) g i));
        trees = λ m i. ⊎_elim (λ j. x.trees m j)
            (λ d. ⊎_elim (λ same. ap (λ (w : WithTrees). w.trees) same ∙ is ∙ ap (λ (w : WithTrees). built R w.firing) (sym same)) (λ z. absurd z) d)
            (from_append made (one ∷ []) m (subst (λ ms. m ∈ ms) e i));
      }
