-- The marks of supported arcs and firings, from the last firing to the first.
use Rattle.std.proofs.Common.{◌≡◌, ◌⊎◌, ◌↔◌, ℕ, zero, suc, ◌+◌, ◌-◌, ◌<◌, ◌≤◌, Bool, true, false, List, [], ◌∷◌, length, drop, set, replicate, Some, slice_get, refl, sym, ◌∙◌, ap, subst, inl, inr, ⊎_elim, arith, length-set}
use Rattle.std.specs.Prelude.{IsTrue, IsFalse}
use Rattle.std.proofs.lemmas.List.{length-replicate, drop_all, drop-drop}
use Rattle.std.proofs.lemmas.Option.{slice_get_within}
use Rattle.std.proofs.Math.Nat.{eq-or-lt_of_le}
use Rattle.qs_tree.specs.Lists.{◌∈◌}
use Rattle.qs_pattern.specs.Rules.{Rule}
use Rattle.qs_canon.specs.Rounds.{Done, Stage}
use Rattle.qs_clean.specs.Cleaning.{Stays}
use Rattle.qs_clean.specs.Marks.{IsMarked}
use Rattle.qs_clean.proofs.Exploring.{set_still, set_marked, set_only, none_of-replicate}
use Rattle.qs_explain.specs.working.Marks.{IsFrom, HasMarked}
use Rattle.qs_explain.specs.Support.{next_first, added_first, IsSupportedArc, IsSupportedFiring, it_stays, in_path, beside, added, path_at, added_at}
use Rattle.qs_explain.proofs.Ranges.{between-from, between-in}
use Rattle.qs_explain.proofs.Laid.{AreLaid, next-met, next-unmet, added-met, added-unmet, laid-drop, added-high, drop_is}
use Rattle.qs_explain.proofs.Grounded.{path_is}

-- the marks where all firings from the place i on have been looked at
pub record Supports (S : Stage) (i behind : ℕ) (arcs fired : List Bool) : Type 0 where
  pub arcs_len : length arcs ≡ length S.graph.arcs
  pub fired_len : length fired ≡ length S.done
  pub behind_is : behind ≡ next_first (length S.graph.arcs) (drop i S.done)
  pub stay : (k : ℕ) → Stays S k → IsMarked arcs k
  pub arcs_are : (k : ℕ) → IsMarked arcs k → IsSupportedArc S k
  pub fired_are : (j : ℕ) → IsMarked fired j → IsSupportedFiring S j
  pub paths : (j k : ℕ) → IsMarked fired j → k ∈ path_at S j → IsMarked arcs k
  pub others : (j k : ℕ) → IsMarked fired j → k ∈ added_at S j → IsMarked arcs k
  pub all : (j k : ℕ) → i ≤ j → IsMarked arcs k → k ∈ added_at S j → IsMarked fired j

-- a mark is taken away
unset_old : (marks : List Bool) (k n : ℕ) → IsMarked (set marks k false) n → IsMarked marks n
unset_old [] k n e = e
unset_old (b ∷ marks) zero zero e = absurd cc
unset_old (b ∷ marks) zero (suc n) e = e
unset_old (b ∷ marks) (suc k) zero e = e
unset_old (b ∷ marks) (suc k) (suc n) e = unset_old marks k n e

unset_still : (marks : List Bool) (k n : ℕ) → k < n → IsMarked marks n → IsMarked (set marks k false) n
unset_still [] k n l e = e
unset_still (b ∷ marks) k zero l e = absurd (omega arith)
unset_still (b ∷ marks) zero (suc n) l e = e
unset_still (b ∷ marks) (suc k) (suc n) l e = unset_still marks k n (omega arith) e

module _ (S : Stage) where
  -- none has been looked at
  pub supports_start : (arcs fired : List Bool) (i behind : ℕ) → length arcs ≡ length S.graph.arcs → ((k : ℕ) → IsMarked arcs k ↔ Stays S k) → fired ≡ replicate (length S.done) false
      → i ≡ length S.done → behind ≡ length S.graph.arcs → Supports S i behind arcs fired
  supports_start arcs fired i behind len stay none at end =
      let unmarked : (j : ℕ) → IsMarked fired j → ⊥ = λ j m. none_of-replicate (length S.done) j (subst (λ ms. IsMarked ms j) none m) in
      record {
        arcs_len = len;
        fired_len = ap length none ∙ length-replicate (length S.done) false;
        behind_is = end ∙ sym (ap (next_first (length S.graph.arcs)) (drop_all i S.done (omega arith)));
        stay = λ k s. (stay k).1 s;
        arcs_are = λ k m. it_stays ((stay k).0 m);
        fired_are = λ j m. absurd (unmarked j m);
        paths = λ j k m p. absurd (unmarked j m);
        others = λ j k m p. absurd (unmarked j m);
        all = λ j k l m p. absurd (subst (λ ds. k ∈ added_first (length S.graph.arcs) ds) (drop_all j S.done (omega arith)) p);
      }

  -- all have been looked at
  module _ (behind : ℕ) (arcs fired : List Bool) (h : Supports S 0 behind arcs fired) where
    mutual
      pub arc_marked : (k : ℕ) → IsSupportedArc S k → IsMarked arcs k
      arc_marked k (it_stays s) = h.stay k s
      arc_marked k (in_path {i = i} f j) = h.paths i k (firing_marked i f) j
      arc_marked k (beside {i = i} f j) = h.others i k (firing_marked i f) j

      pub firing_marked : (i : ℕ) → IsSupportedFiring S i → IsMarked fired i
      firing_marked i (added {k = k} a j) = h.all i k (omega arith) (arc_marked k a) j

  -- the firing at the place i is looked at
  module _ (i : ℕ) (d : Done) (is : slice_get S.done i ≡ Some d) (behind : ℕ) (arcs fired : List Bool) (h : Supports S (suc i) behind arcs fired) where
    abbrev rest : List Done
    rest = drop (suc i) S.done

    here : drop i S.done ≡ d ∷ rest
    here = drop_is S.done i d is

    added_here : (k : ℕ) → k ∈ added_at S i → k ∈ added_first (length S.graph.arcs) (d ∷ rest)
    added_here k = subst (λ ds. k ∈ added_first (length S.graph.arcs) ds) here

    -- a place from i on is i or comes later
    later : (j : ℕ) → i ≤ j → (i ≡ j) ⊎ (suc i ≤ j)
    later j l = ⊎_elim inl (λ m. inr (omega arith)) (eq-or-lt_of_le l)

    -- it met its result
    pub supports_met : d.met ≡ true → Supports S i behind arcs fired
    supports_met m = record {
      arcs_len = h.arcs_len;
      fired_len = h.fired_len;
      behind_is = h.behind_is ∙ sym (ap (next_first (length S.graph.arcs)) here ∙ next-met (length S.graph.arcs) d rest m);
      stay = h.stay;
      arcs_are = h.arcs_are;
      fired_are = h.fired_are;
      paths = h.paths;
      others = h.others;
      all = λ j k l marked p. ⊎_elim
          (λ e. absurd (subst (λ ks. k ∈ ks) (added-met (length S.graph.arcs) d rest m) (added_here k (subst (λ x. k ∈ added_at S x) (sym e) p))))
          (λ more. h.all j k more marked p)
          (later j l);
    }

    module _ (u : d.met ≡ false) where
      first_is : d.first ≡ next_first (length S.graph.arcs) (drop i S.done)
      first_is = sym (ap (next_first (length S.graph.arcs)) here ∙ next-unmet (length S.graph.arcs) d rest u)

      from_added : (k : ℕ) → k ∈ added_at S i → IsFrom d.first behind k
      from_added k p =
          let r = between-from d.first (next_first (length S.graph.arcs) rest) k (subst (λ ks. k ∈ ks) (added-unmet (length S.graph.arcs) d rest u) (added_here k p)) in
          let low = r.0 in
          let high = r.1 in
          (low, omega (arith, h.behind_is))

      to_added : (k : ℕ) → IsFrom d.first behind k → k ∈ added_at S i
      to_added k r =
          let low = r.0 in
          let high = r.1 in
          subst (λ ds. k ∈ added_first (length S.graph.arcs) ds) (sym here)
          (subst (λ ks. k ∈ ks) (sym (added-unmet (length S.graph.arcs) d rest u)) (between-in d.first (next_first (length S.graph.arcs) rest) k (low, omega (arith, h.behind_is))))

      -- none of the arcs that it added is supported
      pub supports_none : (HasMarked arcs d.first behind → ⊥) → Supports S i d.first arcs (set fired i false)
      supports_none none = record {
        arcs_len = h.arcs_len;
        fired_len = length-set fired i false ∙ h.fired_len;
        behind_is = first_is;
        stay = h.stay;
        arcs_are = h.arcs_are;
        fired_are = λ j m. h.fired_are j (unset_old fired i j m);
        paths = λ j k m. h.paths j k (unset_old fired i j m);
        others = λ j k m. h.others j k (unset_old fired i j m);
        all = λ j k l marked p. ⊎_elim
            (λ e. absurd (none (k, from_added k (subst (λ x. k ∈ added_at S x) (sym e) p), marked)))
            (λ more. unset_still fired i j (omega arith) (h.all j k more marked p))
            (later j l);
      }

      -- one of them is
      module _ (R : List Rule) (laid : AreLaid R (length S.graph.arcs) S.done) (new : List Bool) (len : length new ≡ length arcs)
          (marks : (k : ℕ) → IsMarked new k ↔ ((IsMarked arcs k ⊎ IsFrom d.first behind k) ⊎ (k ∈ d.firing.path))) (some : HasMarked arcs d.first behind) where
        supported : IsSupportedFiring S i
        supported = added (h.arcs_are some.0 some.2) (to_added some.0 some.1)

        within : i < length fired
        within = omega (arith, h.fired_len, slice_get_within S.done i d is)

        laid_here : AreLaid R (length S.graph.arcs) (d ∷ rest)
        laid_here = subst (AreLaid R (length S.graph.arcs)) here (laid-drop R (length S.graph.arcs) i S.done laid)

        -- what later firings added isn't marked anew
        old : (j k : ℕ) → suc i ≤ j → k ∈ added_at S j → IsMarked new k → IsMarked arcs k
        old j k l p m =
            let e : (suc i) + (j - suc i) ≡ j = omega arith in
            let same : drop (j - suc i) rest ≡ drop j S.done = drop-drop (j - suc i) (suc i) S.done ∙ ap (λ x. drop x S.done) e in
            let high = added-high R (length S.graph.arcs) rest (j - suc i) k laid_here.1 (subst (λ ds. k ∈ added_first (length S.graph.arcs) ds) (sym same) p) in
            ⊎_elim
            (λ o. ⊎_elim (λ a. a) (λ r. let low = r.1 in absurd (omega (arith, h.behind_is))) o)
            (λ q.
            let l = laid_here.0 u in
            let many = l.many in
            absurd (omega (arith, l.path k q)))
            ((marks k).0 m)

        pub supports_some : Supports S i d.first new (set fired i true)
        supports_some = record {
          arcs_len = len ∙ h.arcs_len;
          fired_len = length-set fired i true ∙ h.fired_len;
          behind_is = first_is;
          stay = λ k s. (marks k).1 (inl (inl (h.stay k s)));
          arcs_are = λ k m. ⊎_elim
              (λ o. ⊎_elim (λ a. h.arcs_are k a) (λ r. beside supported (to_added k r)) o)
              (λ p. in_path supported (subst (λ ks. k ∈ ks) (sym (path_is S i d is)) p))
              ((marks k).0 m);
          fired_are = λ j m. ⊎_elim (λ o. h.fired_are j o) (λ e. subst (IsSupportedFiring S) (sym e) supported) (set_only fired i j m);
          paths = λ j k m p. ⊎_elim
              (λ o. (marks k).1 (inl (inl (h.paths j k o p))))
              (λ e. (marks k).1 (inr (subst (λ ks. k ∈ ks) (path_is S i d is) (subst (λ x. k ∈ path_at S x) e p))))
              (set_only fired i j m);
          others = λ j k m p. ⊎_elim
              (λ o. (marks k).1 (inl (inl (h.others j k o p))))
              (λ e. (marks k).1 (inl (inr (from_added k (subst (λ x. k ∈ added_at S x) e p)))))
              (set_only fired i j m);
          all = λ j k l m p. ⊎_elim
              (λ e. subst (IsMarked (set fired i true)) e (set_marked fired i within))
              (λ more. set_still fired i j (h.all j k more (old j k more p m) p))
              (later j l);
        }

      -- it is marked where one is
      pub supports_step : (R : List Rule) → AreLaid R (length S.graph.arcs) S.done → (new : List Bool) → length new ≡ length arcs → (some : Bool) → IsTrue some ↔ HasMarked arcs d.first behind
          → (IsTrue some → (k : ℕ) → IsMarked new k ↔ ((IsMarked arcs k ⊎ IsFrom d.first behind k) ⊎ (k ∈ d.firing.path))) → (IsFalse some → new ≡ arcs) → Supports S i d.first new (set fired i some)
      supports_step R laid new len true whether marks same = supports_some R laid new len (marks refl) (whether.0 refl)
      supports_step R laid new len false whether marks same = subst (λ (ms : List Bool). Supports S i d.first ms (set fired i false)) (sym (same refl)) (supports_none (λ some. let e : false ≡ true = whether.1 some in cc))
