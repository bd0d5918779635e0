-- Each stage that accepted rules reach from a valid graph has a support.
use Rattle.std.proofs.Common.{◌≡◌, ◌⊎◌, ◌↔◌, ℕ, zero, suc, ◌-◌, ◌<◌, ◌≤◌, Bool, true, false, List, [], ◌∷◌, length, set, replicate, get_or, Option, Some, None, slice_get, refl, subst, inl, inr, ⊎_elim, arith}
use Rattle.qs_tree.proofs.Elements.{exists_at}
use Rattle.qs_tree.specs.Lists.{◌∈◌}
use Rattle.qs_tree.proofs.Members.{in_at, in_map}
use Rattle.qs_tree.proofs.Decisions.{true_false, decide_number, decide_at_most, decide_member, decide_either}
use Rattle.qs_pattern.specs.Rules.{Rule, IsAccepted}
use Rattle.qs_graph.specs.Graphs.{QGraph, IsValid}
use Rattle.qs_firing.specs.Adding.{from_on}
use Rattle.qs_canon.specs.Rounds.{Done, Rounds, Stage}
use Rattle.qs_canon.proofs.Keeping.{Keeps, keeps_rounds}
use Rattle.qs_clean.specs.Cleaning.{Stays, IsLeft}
use Rattle.qs_clean.specs.Marks.{IsMarked}
use Rattle.qs_clean.proofs.Places.{places, places_ascend, in_places}
use Rattle.qs_clean.proofs.Exploring.{marked_within}
use Rattle.qs_clean.proofs.MarkDecisions.{marks_from, length-marks, marks_are}
use Rattle.qs_clean.proofs.CascadeExistence.{reached_left}
use Rattle.qs_explain.specs.working.Marks.{IsFrom, HasMarked}
use Rattle.qs_explain.specs.Support.{SupportOf, IsSupport}
use Rattle.qs_explain.proofs.Ranges.{between-from, between-in}
use Rattle.qs_explain.proofs.Laid.{AreLaid, rounds_laid, laid-drop, next_low, met_cases}
use Rattle.qs_explain.proofs.Supporting.{Supports, supports_start, supports_met, supports_none, supports_some, arc_marked, firing_marked}
use Rattle.qs_graph.proofs.Paths.{leads_low}

-- what can be decided of marks
decide_marked : (marks : List Bool) (k : ℕ) → Dec (IsMarked marks k)
decide_marked marks k = by (get_or marks k false) refl
  where
    by : (b : Bool) → get_or marks k false ≡ b → Dec (IsMarked marks k)
    by true e = yes e
    by false e = no (λ m. true_false e m)

decide_from : (a b k : ℕ) → Dec (IsFrom a b k)
decide_from a b k = by (decide_at_most a k) (decide_at_most (suc k) b)
  where
    by : Dec (a ≤ k) → Dec (suc k ≤ b) → Dec (IsFrom a b k)
    by (yes l) (yes m) = yes (l, omega arith)
    by (no n) q = no (λ h. n h.0)
    by p (no n) = no (λ h. let less = h.1 in n (omega arith))

some_marked : (marks : List Bool) (ks : List ℕ) → Dec ((k : ℕ) × (k ∈ ks) × IsMarked marks k)
some_marked marks [] = no (λ s. s.1)
some_marked marks (j ∷ ks) = by (decide_marked marks j) (some_marked marks ks)
  where
    by : Dec (IsMarked marks j) → Dec ((k : ℕ) × (k ∈ ks) × IsMarked marks k) → Dec ((k : ℕ) × (k ∈ (j ∷ ks)) × IsMarked marks k)
    by (yes m) q = yes (j, inl refl, m)
    by (no n) (yes s) = yes (s.0, inr s.1, s.2)
    by (no n) (no o) = no (λ s. ⊎_elim (λ e. n (subst (IsMarked marks) e s.2)) (λ i. o (s.0, i, s.2)) s.1)

decide_some : (marks : List Bool) (a b : ℕ) → Dec (HasMarked marks a b)
decide_some marks a b = by (some_marked marks (from_on a (b - a)))
  where
    by : Dec ((k : ℕ) × (k ∈ from_on a (b - a)) × IsMarked marks k) → Dec (HasMarked marks a b)
    by (yes s) = yes (s.0, between-from a b s.0 s.1, s.2)
    by (no n) = no (λ h. n (h.0, between-in a b h.0 h.1, h.2))

module _ (R : List Rule) (accepted : (rule : Rule) → rule ∈ R → IsAccepted rule) (G : QGraph) (valid : IsValid G) (n : ℕ) (S : Stage) (reached : Rounds R G n S) where
  keeps : Keeps G S
  keeps = keeps_rounds R accepted G valid n S reached

  laid : AreLaid R (length S.graph.arcs) S.done
  laid = (rounds_laid R accepted G n S reached).laid

  path_in : (d : Done) → d ∈ S.done → (k : ℕ) → k ∈ d.firing.path → k < length S.graph.arcs
  path_in d i k j =
      let p = keeps.paths d.firing (in_map (λ (x : Done). x.firing) S.done d i) in
      leads_low S.graph.arcs p.from d.firing.path p.to p.is.leads k j

  -- the arcs that stay
  record KeptArcs : Type 0 where
    kept : List ℕ
    are : (k : ℕ) → k ∈ kept ↔ Stays S k

  kept_arcs : KeptArcs
  kept_arcs = by (reached_left R accepted G valid n S reached)
    where
      by : (r : Option QGraph) × IsLeft S r → KeptArcs
      by (None, l) = record { kept = l.1.kept; are = l.1.kept_are }
      by (Some H, l) = record { kept = l.0.kept; are = l.0.kept_are }

  decide_stays : (k : ℕ) → Dec (Stays S k)
  decide_stays k = by (decide_member decide_number k kept_arcs.kept)
    where
      by : Dec (k ∈ kept_arcs.kept) → Dec (Stays S k)
      by (yes i) = yes ((kept_arcs.are k).0 i)
      by (no f) = no (λ s. f ((kept_arcs.are k).1 s))

  -- the marks where all firings from a place on have been looked at
  abbrev Looked : ℕ → Type 0
  Looked i = (behind : ℕ) × (arcs : List Bool) × (fired : List Bool) × Supports S i behind arcs fired

  none_looked : Looked (length S.done)
  none_looked = (
    length S.graph.arcs,
    marks_from (Stays S) decide_stays 0 (length S.graph.arcs),
    replicate (length S.done) false,
    supports_start S (marks_from (Stays S) decide_stays 0 (length S.graph.arcs)) (replicate (length S.done) false) (length S.done) (length S.graph.arcs)
        (length-marks (Stays S) decide_stays 0 (length S.graph.arcs))
        (marks_are (Stays S) decide_stays (length S.graph.arcs) (λ k s. leads_low S.graph.arcs s.entry s.path s.exit s.leads.leads k s.on))
        refl refl refl,
  )

  -- one more is looked at
  module _ (i : ℕ) (d : Done) (is : slice_get S.done i ≡ Some d) (behind : ℕ) (arcs fired : List Bool) (h : Supports S (suc i) behind arcs fired) where
    abbrev IsNew : ℕ → Type 0
    IsNew k = (IsMarked arcs k ⊎ IsFrom d.first behind k) ⊎ (k ∈ d.firing.path)

    decide_new : (k : ℕ) → Dec (IsNew k)
    decide_new k = decide_either (decide_either (decide_marked arcs k) (decide_from d.first behind k)) (decide_member decide_number k d.firing.path)

    abbrev new : List Bool
    new = marks_from IsNew decide_new 0 (length arcs)

    new_within : (k : ℕ) → IsNew k → k < length arcs
    new_within k =
        let low = next_low R (length S.graph.arcs) _ (laid-drop R (length S.graph.arcs) (suc i) S.done laid) in
        ⊎_elim
        (λ o. ⊎_elim (λ m. marked_within arcs k m) (λ r. let less = r.1 in omega (arith, h.behind_is, h.arcs_len, low)) o)
        (λ j. omega (arith, path_in d (in_at S.done i d is) k j, h.arcs_len))

    one_looked : Looked i
    one_looked = ⊎_elim
        (λ m. (behind, arcs, fired, supports_met S i d is behind arcs fired h m))
        (λ u. unmet u (decide_some arcs d.first behind))
        (met_cases d)
      where
        unmet : d.met ≡ false → Dec (HasMarked arcs d.first behind) → Looked i
        unmet u (yes some) = (
          d.first,
          new,
          set fired i true,
          supports_some S i d is behind arcs fired h u R laid new (length-marks IsNew decide_new 0 (length arcs)) (marks_are IsNew decide_new (length arcs) new_within) some,
        )
        unmet u (no none) = (d.first, arcs, set fired i false, supports_none S i d is behind arcs fired h u none)

  all_looked : (i : ℕ) → i ≤ length S.done → Looked i → Looked 0
  all_looked zero l h = h
  all_looked (suc i) l (behind, arcs, fired, h) =
      let at = exists_at S.done i (omega arith) in
      all_looked i (omega arith) (one_looked i at.0 at.1 behind arcs fired h)

  pub something_supported : (s : SupportOf) × IsSupport S s
  something_supported = by (all_looked (length S.done) (omega arith) none_looked)
    where
      by : Looked 0 → (s : SupportOf) × IsSupport S s
      by (behind, arcs, fired, h) = (
        record { arcs = places 0 arcs; firings = places 0 fired },
        record {
          arcs_ascend = places_ascend 0 arcs;
          arcs_are = λ k. (λ i. h.arcs_are k ((in_places arcs k).0 i), λ a. (in_places arcs k).1 (arc_marked S behind arcs fired h k a));
          firings_ascend = places_ascend 0 fired;
          firings_are = λ k. (λ i. h.fired_are k ((in_places fired k).0 i), λ a. (in_places fired k).1 (firing_marked S behind arcs fired h k a));
        },
      )
