-- Visiting one node.
use Rattle.std.proofs.Common.{◌≡◌, ◌≢◌, ◌⊎◌, ℕ, zero, suc, ◌+◌, ◌<◌, ◌≤◌, inl, inr, ⊎_elim, true, false, List, [], ◌∷◌, ◌++◌, length, set, Option, Some, None, slice_get, refl, sym, ap, ◌∙◌, subst, arith, length-set}
use Rattle.std.proofs.lemmas.List.{length_push}
use Rattle.std.proofs.lemmas.Bool.{cases_lt}
use Rattle.std.proofs.lemmas.Option.{slice_get_within}
use Rattle.qs_tree.proofs.Elements.{set_here}
use Rattle.qs_tree.specs.Lists.{◌∈◌}
use Rattle.qs_tree.proofs.Decisions.{decide_number}
use Rattle.qs_tree.proofs.Members.{in_append_left, in_append_right, from_append}
use Rattle.qs_graph.proofs.Paths.{slice_get-append}
use Rattle.qs_firing.proofs.Merging.{at_seam}
use Rattle.qs_levels.specs.declared.ordering.Node.{Node}
use Rattle.qs_levels.specs.working.Ordering.{IsDone, IsUndone, IsFromBelow, IsReached, IsPassed, IsGoing, undone_of, undone, IsVisited, IsHeldUp}

set_there : {X : Type 0} (xs : List X) (i j : ℕ) (v : X) → j ≢ i → slice_get (set xs i v) j ≡ slice_get xs j
set_there [] i j v h = refl
set_there (x ∷ xs) zero zero v h = absurd (h refl)
set_there (x ∷ xs) zero (suc j) v h = refl
set_there (x ∷ xs) (suc i) zero v h = refl
set_there (x ∷ xs) (suc i) (suc j) v h = set_there xs i j v (λ e. h (ap suc e))

undone-set : (nodes : List Node) (i : ℕ) (was new : Node) → slice_get nodes i ≡ Some was → undone (set nodes i new) + undone_of was.done ≡ undone nodes + undone_of new.done
undone-set [] i was new e = absurd cc
undone-set (x ∷ nodes) zero was new e = let same : x ≡ was = cc in omega (arith, ap (λ (y : Node). undone_of y.done) same)
undone-set (x ∷ nodes) (suc i) was new e = omega (arith, undone-set nodes i was new e)

one_state : (x : Node) → x.done ≡ true → x.done ≡ false → ⊥
one_state x t f = let e : true ≡ false = sym t ∙ f in cc

module _ (sources targets : List ℕ) (nodes : List Node) (order : List ℕ) (g : IsGoing sources targets nodes order) (n : ℕ) where
  -- a node that is done stays as it is
  pub visited_done : (x : Node) → slice_get nodes n ≡ Some x → x.done ≡ true → IsVisited sources targets nodes nodes order order n
  visited_done x is done = record {
    going = g;
    long = refl;
    longer = omega arith;
    kept = λ k a e. e;
    was = λ a u. u;
    fate = λ a u. inl u;
    waits = λ u. (let same : x ≡ u.node = (let p = sym is ∙ u.is in cc) in absurd (one_state x done (ap (λ (y : Node). y.done) same ∙ u.undone)));
    work = refl;
  }

  module _ (was : Node) (is : slice_get nodes n ≡ Some was) (unfinished : was.done ≡ false) (new : Node) (p : IsPassed sources targets nodes n new.depth new.unpassed) where
    abbrev after : List Node
    after = set nodes n new

    within : n < length nodes
    within = slice_get_within nodes n was is

    here : slice_get (set nodes n new) n ≡ Some new
    here = set_here nodes n new within

    new_is : (x : Node) → slice_get (set nodes n new) n ≡ Some x → new ≡ x
    new_is x e = let q = sym here ∙ e in cc

    -- what was done is another node
    other : (a : ℕ) (x : Node) → IsDone nodes a x → a ≢ n
    other a x d s = let same : x ≡ was = (let q = sym d.is ∙ ap (slice_get nodes) s ∙ is in cc) in one_state x d.done (ap (λ (y : Node). y.done) same ∙ unfinished)

    still : (a : ℕ) (x : Node) → IsDone nodes a x → IsDone (set nodes n new) a x
    still a x d = record { is = set_there nodes n a new (other a x d) ∙ d.is; done = d.done }

    from_below : (k depth : ℕ) → IsFromBelow sources nodes k depth → IsFromBelow sources (set nodes n new) k depth
    from_below k depth f = record { source = f.source; at = f.at; node = f.node; done = still f.source f.node f.done; below = f.below }

    reached : (m depth : ℕ) → IsReached sources targets nodes m depth → IsReached sources targets (set nodes n new) m depth
    reached m depth r = record { step = r.step; to = r.to; source = r.source; from = r.from; node = r.node; done = still r.source r.node r.done; just_below = r.just_below }

    passed : (m depth : ℕ) (o : Option ℕ) → IsPassed sources targets nodes m depth o → IsPassed sources targets (set nodes n new) m depth o
    passed m depth o q = record { behind = λ k e b. from_below k depth (q.behind k e b); stands = q.stands; reached = λ h. reached m depth (q.reached h) }

    all_passed : (m : ℕ) (x : Node) → slice_get (set nodes n new) m ≡ Some x → IsPassed sources targets (set nodes n new) m x.depth x.unpassed
    all_passed m x e = by (decide_number m n)
      where
        by : Dec (m ≡ n) → IsPassed sources targets (set nodes n new) m x.depth x.unpassed
        by (yes s) =
            let same : new ≡ x = new_is x (subst (λ j. slice_get (set nodes n new) j ≡ Some x) s e) in
            subst (λ (y : Node). IsPassed sources targets (set nodes n new) m y.depth y.unpassed) same (subst (λ j. IsPassed sources targets (set nodes n new) j new.depth new.unpassed) (sym s) (passed n new.depth new.unpassed p))
        by (no f) = passed m x.depth x.unpassed (g.passed m x (sym (set_there nodes n m new f) ∙ e))

    -- a node that is done is the new one, or was done before
    done_cases : (m : ℕ) (x : Node) → IsDone (set nodes n new) m x → ((m ≡ n) × (new ≡ x)) ⊎ IsDone nodes m x
    done_cases m x d = by (decide_number m n)
      where
        by : Dec (m ≡ n) → ((m ≡ n) × (new ≡ x)) ⊎ IsDone nodes m x
        by (yes s) = inl (s, new_is x (subst (λ j. slice_get (set nodes n new) j ≡ Some x) s d.is))
        by (no f) = inr (record { is = sym (set_there nodes n m new f) ∙ d.is; done = d.done })

    undone_cases : (m : ℕ) → IsUndone (set nodes n new) m → IsUndone nodes m
    undone_cases m u = by (decide_number m n)
      where
        by : Dec (m ≡ n) → IsUndone nodes m
        by (yes s) = subst (IsUndone nodes) (sym s) (record { node = was; is = is; undone = unfinished })
        by (no f) = record { node = u.node; is = sym (set_there nodes n m new f) ∙ u.is; undone = u.undone }

    still_undone : (m : ℕ) → m ≢ n → IsUndone nodes m → IsUndone (set nodes n new) m
    still_undone m f u = record { node = u.node; is = set_there nodes n m new f ∙ u.is; undone = u.undone }

    low_new : new.depth ≤ length order
    low_new = ⊎_elim
        (λ h. let r = p.reached h in omega (arith, r.just_below, g.low r.source r.node r.done))
        (λ h. omega arith)
        (cases_lt 0 new.depth)

    count : undone (set nodes n new) + 1 ≡ undone nodes + undone_of new.done
    count = omega (arith, undone-set nodes n was new is, ap undone_of unfinished)

    -- the node waits
    pub visited_waiting : new.done ≡ false → IsHeldUp sources nodes new.unpassed → IsVisited sources targets nodes (set nodes n new) order order n
    visited_waiting f h = record {
      going = record {
        passed = all_passed;
        finished = λ m x d. ⊎_elim (λ (s, e). absurd (not_new x e d.done)) (λ o. g.finished m x o) (done_cases m x d);
        low = λ m x d. ⊎_elim (λ (s, e). absurd (not_new x e d.done)) (λ o. g.low m x o) (done_cases m x d);
        ordered = λ m x d. ⊎_elim (λ (s, e). absurd (not_new x e d.done)) (λ o. g.ordered m x o) (done_cases m x d);
        within = λ m i. omega (arith, g.within m i, length-set nodes n new);
      };
      long = length-set nodes n new;
      longer = omega arith;
      kept = λ k a e. e;
      was = undone_cases;
      fate = λ a u. inl (fate a u (decide_number a n));
      waits = λ u. record { step = h.step; to = p.stands h.step h.is; source = h.source; from = h.from; why = inl (fate h.source h.undone (decide_number h.source n)) };
      work = omega (arith, count, ap undone_of f);
    }
      where
        not_new : (x : Node) → new ≡ x → x.done ≡ true → ⊥
        not_new x e t = one_state x t (ap (λ (y : Node). y.done) (sym e) ∙ f)

        fate : (a : ℕ) → IsUndone nodes a → Dec (a ≡ n) → IsUndone (set nodes n new) a
        fate a u (yes s) = subst (IsUndone (set nodes n new)) (sym s) (record { node = new; is = here; undone = f })
        fate a u (no d) = still_undone a d u

    -- the node is done
    pub visited_new : (t : new.done ≡ true) → new.unpassed ≡ None → (new_order : List ℕ) → new_order ≡ order ++ n ∷ [] → IsVisited sources targets nodes (set nodes n new) order new_order n
    visited_new t none new_order put = record {
      going = record {
        passed = all_passed;
        finished = λ m x d. ⊎_elim (λ (s, e). ap (λ (y : Node). y.unpassed) (sym e) ∙ none) (λ o. g.finished m x o) (done_cases m x d);
        low = λ m x d. ⊎_elim (λ (s, e). omega (arith, low_new, ap (λ (y : Node). y.depth) e, longer)) (λ o. omega (arith, g.low m x o, longer)) (done_cases m x d);
        ordered = λ m x d. subst (λ ns. m ∈ ns) (sym put) (⊎_elim (λ (s, e). in_append_right order (n ∷ []) m (inl s)) (λ o. in_append_left order (n ∷ []) m (g.ordered m x o)) (done_cases m x d));
        within = λ m i. ⊎_elim
            (λ j. omega (arith, g.within m j, length-set nodes n new))
            (λ j. ⊎_elim (λ s. omega (arith, within, length-set nodes n new)) (λ none. absurd none) j)
            (from_append order (n ∷ []) m (subst (λ ns. m ∈ ns) put i));
      };
      long = length-set nodes n new;
      longer = omega (arith, longer);
      kept = λ k a e. ap (λ ns. slice_get ns k) put ∙ slice_get-append order (n ∷ []) k a e;
      was = undone_cases;
      fate = λ a u. fate a u (decide_number a n);
      waits = λ u. absurd (one_state u.node (ap (λ (y : Node). y.done) (sym (new_is u.node u.is)) ∙ t) u.undone);
      work = omega (arith, count, ap undone_of t, longer);
    }
      where
        longer : length new_order ≡ length order + 1
        longer = ap length put ∙ length_push order n

        fate : (a : ℕ) → IsUndone nodes a → Dec (a ≡ n) → IsUndone (set nodes n new) a ⊎ (slice_get new_order (length order) ≡ Some a)
        fate a u (yes s) = inr (ap (λ ns. slice_get ns (length order)) put ∙ at_seam order n [] ∙ ap Some (sym s))
        fate a u (no d) = inl (still_undone a d u)
