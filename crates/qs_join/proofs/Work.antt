-- The firings through one of the listed places are the work of an arc.
use Rattle.std.proofs.Common.{◌≡◌, ℕ, ◌⊎◌, inl, inr, ⊎_elim, List, [], ◌∷◌, ◌++◌, length, Option, Some, None, slice_get, refl, sym, ap, ◌∙◌, subst}
use Rattle.qs_tree.specs.Lists.{◌∈◌}
use Rattle.qs_tree.proofs.Members.{in_append_left, in_append_right, from_append, in_at}
use Rattle.qs_tree.specs.declared.cell.Label.{Label}
use Rattle.qs_tree.specs.Trees.{kids}
use Rattle.qs_pattern.specs.Instances.{IsMatch, inst}
use Rattle.qs_pattern.proofs.MatchLemmas.{matched_value}
use Rattle.qs_pattern.specs.Rules.{Rule}
use Rattle.qs_graph.specs.Graphs.{Arc, Leads, trees_on}
use Rattle.qs_firing.specs.Firings.{Firing}
use Rattle.qs_firing.specs.Work.{IsWorkOf}
use Rattle.qs_join.specs.declared.heads.Heads.{Heads}
use Rattle.qs_join.specs.Heads.{wild, below_of, IsPlace, IsAsking, AreHeadsOf}
use Rattle.qs_join.specs.working.Listing.{first_root_of, narrow_of}
use Rattle.qs_join.specs.working.Searching.{FiresBy, AreUpTo, Through, ThroughPlace, ThroughOne, Finds}
use Rattle.qs_join.specs.working.Sorting.{AreOfArc}
use Rattle.qs_join.proofs.Finding.{finds_same, finds_both}
use Rattle.qs_join.proofs.Listing.{is_listed}
use Rattle.qs_join.proofs.Roots.{AsksFor, asked_at, first_at, tree_on}
use Rattle.qs_join.proofs.Arcs.{leads_within, leads_beyond, trees_within}

-- ---- one place after the other

module _ (R : List Rule) (arcs : List Arc) (m : ℕ) where
  -- the rule of a pair is the one at its number
  pub through_place : (pair : ℕ × ℕ) (rule : Rule) → slice_get R pair.0 ≡ Some rule → (old new : List Firing) → Finds (Through pair.0 rule arcs m pair.1 (m ∷ [])) old new → Finds (ThroughPlace R arcs m pair) old new
  through_place pair rule at old new = finds_same
      (λ f t. record { rule = rule; is_rule = at; through = t })
      (λ f t. let is = t.is_rule in let same : t.rule ≡ rule = cc in subst (λ (r : Rule). Through pair.0 r arcs m pair.1 (m ∷ []) f) same t.through)

  pub no_place : (f : Firing) → ThroughOne R arcs m [] f → ⊥
  no_place f t = t.among

  pub place_more : (pairs : List (ℕ × ℕ)) (pair : ℕ × ℕ) (a b c : List Firing) → Finds (ThroughOne R arcs m pairs) a b → Finds (ThroughPlace R arcs m pair) b c → Finds (ThroughOne R arcs m (pairs ++ pair ∷ [])) a c
  place_more pairs pair a b c = finds_both
      (λ f t. record { pair = t.pair; among = in_append_left pairs (pair ∷ []) t.pair t.among; through = t.through })
      (λ f t. record { pair = pair; among = in_append_right pairs (pair ∷ []) pair (inl refl); through = t })
      (λ f t. ⊎_elim (λ i. inl (record { pair = t.pair; among = i; through = t.through }))
      (λ d. ⊎_elim (λ e. inr (subst (λ (p : ℕ × ℕ). ThroughPlace R arcs m p f) e t.through)) (λ z. absurd z) d)
      (from_append pairs (pair ∷ []) t.pair t.among))

  -- ---- the work of the arc

  of_place : (pair : ℕ × ℕ) (f : Firing) → ThroughPlace R arcs m pair f → IsWorkOf R arcs m f
  of_place pair f t =
      let u = t.through in
      let by = u.by in
      record {
        fires = record {
          rule = t.rule;
          is_rule = ap (slice_get R) by.rule_is ∙ t.is_rule;
          from = by.from;
          to = by.to;
          path = record { some = by.path.some; leads = leads_within arcs m by.from f.path by.to u.few by.path.leads };
          long = by.long;
          matches = subst (λ ts. IsMatch t.rule.left ts f.values) (sym (trees_within arcs m f.path u.few)) by.matches;
          holds = by.holds;
        };
        greatest = record {
          member = subst (λ (ks : List ℕ). m ∈ ks) (sym u.path_is) (in_append_right u.front (m ∷ u.rest) m (inl refl));
          at_most = u.few;
        };
      }

  parts : (ks : List ℕ) → m ∈ ks → (front : List ℕ) × (rest : List ℕ) × (ks ≡ front ++ (m ∷ rest))
  parts [] i = absurd i
  parts (k ∷ ks) (inl e) = ([], ks, ap (λ j. j ∷ ks) (sym e))
  parts (k ∷ ks) (inr i) = let (front, rest, e) = parts ks i in (k ∷ front, rest, ap (λ js. k ∷ js) e)

  module _ (heads : Heads) (are : AreHeadsOf R heads) (arc : Arc) (at : slice_get arcs m ≡ Some arc) where
    abbrev first : Option Label
    first = first_root_of (kids arc.tree)

    -- a place that asks for the arc's root is listed unless it asks for another root of the first subtree
    is_below : (pair : ℕ × ℕ) (a : Option Label) → IsAsking R arc.tree.root a pair → (a ≡ None) ⊎ (a ≡ first)
        → (pair ∈ narrow_of heads arc.tree.root first) ⊎ (pair ∈ below_of heads arc.tree.root None)
    is_below pair None asks e = inr (are.asking arc.tree.root None pair asks)
    is_below pair (Some k) asks (inl e) = absurd cc
    is_below pair (Some k) asks (inr e) = inl (subst (λ o. pair ∈ narrow_of heads arc.tree.root o) e (are.asking arc.tree.root (Some k) pair asks))

    to_place : (f : Firing) → IsWorkOf R arcs m f
        → (ThroughOne R arcs m (narrow_of heads arc.tree.root first) f ⊎ ThroughOne R arcs m (below_of heads arc.tree.root None) f) ⊎ ThroughOne R arcs m (wild R) f
    to_place f w =
        let r = w.fires in
        let few : AreUpTo m f.path = w.greatest.at_most in
        let (front, rest, e) = parts f.path w.greatest.member in
        let leads = leads_beyond arcs m r.from f.path r.to r.path.leads in
        let matches : IsMatch r.rule.left (trees_on arcs f.path) f.values = subst (λ ts. IsMatch r.rule.left ts f.values) (trees_within arcs m f.path few) r.matches in
        let by : FiresBy f.rule r.rule arcs f = record { rule_is = refl; from = r.from; to = r.to; path = record { some = r.path.some; leads = leads }; long = r.long; matches = matches; holds = r.holds } in
        let t : ThroughPlace R arcs m (f.rule, length front) f = record {
          rule = r.rule;
          is_rule = r.is_rule;
          through = record { by = by; few = few; front = front; long = refl; rest = rest; path_is = e };
        } in
        let ok = are.accepted r.rule (in_at R f.rule r.rule r.is_rule) in
        let tree : slice_get (trees_on arcs f.path) (length front) ≡ Some arc.tree =
        ap (λ ks. slice_get (trees_on arcs ks) (length front)) e ∙ tree_on arcs r.from r.to front m rest arc (subst (λ (ks : List ℕ). Leads arcs r.from ks r.to) e leads) at in
        let stands : slice_get (inst f.values r.rule.left) (length front) ≡ Some arc.tree = ap (λ ts. slice_get ts (length front)) matches.instance ∙ tree in
        let has = matched_value r.rule.left (trees_on arcs f.path) f.values matches in
        let asks : AsksFor r.rule.left (length front) arc.tree = asked_at f.values r.rule.left ok.left.in_class ok.left.no_forest_at_top has (length front) arc.tree stands in
        let (a, below, is) = first_at f.values r.rule.left ok.left.in_class ok.left.no_forest_at_top has (length front) arc.tree stands in
        ⊎_elim
        (λ n. inr (record { pair = (f.rule, length front); among = is_listed None R f.rule (length front) r.rule r.is_rule n; through = t }))
        (λ n. inl (⊎_elim
        (λ i. inl (record { pair = (f.rule, length front); among = i; through = t }))
        (λ i. inr (record { pair = (f.rule, length front); among = i; through = t }))
        (is_below (f.rule, length front) a (r.rule, r.is_rule, n, below) is)))
        asks

    -- all firings through the places that the arc's root and its first subtree's allow are its work
    pub are_of_arc : (pairs more last : List (ℕ × ℕ)) (fs gs hs : List Firing) → pairs ≡ narrow_of heads arc.tree.root (first_root_of (kids arc.tree)) → more ≡ below_of heads arc.tree.root None → last ≡ wild R
        → Finds (ThroughOne R arcs m pairs) [] fs → Finds (ThroughOne R arcs m more) fs gs → Finds (ThroughOne R arcs m last) gs hs → AreOfArc R arcs m hs
    are_of_arc pairs more last fs gs hs e d c x y z =
        let exact : Finds (λ f. ThroughOne R arcs m (narrow_of heads arc.tree.root first) f ⊎ ThroughOne R arcs m (below_of heads arc.tree.root None) f) [] gs = finds_both
        (λ f t. inl t)
        (λ f t. inr t)
        (λ f t. t)
        (subst (λ ps. Finds (ThroughOne R arcs m ps) [] fs) e x) (subst (λ ps. Finds (ThroughOne R arcs m ps) fs gs) d y) in
        let all : Finds (IsWorkOf R arcs m) [] hs = finds_both
        (λ f t. ⊎_elim (λ u. of_place u.pair f u.through) (λ u. of_place u.pair f u.through) t)
        (λ f t. of_place t.pair f t.through)
        (λ f w. to_place f w)
        exact (subst (λ ps. Finds (ThroughOne R arcs m ps) gs hs) c z) in
        record {
          sound = λ f i. all.sound f (subst (λ xs. f ∈ xs) all.are i);
          all = λ f w. subst (λ xs. f ∈ xs) (sym all.are) (all.all f w);
        }

-- what is listed for two roots are places
pub narrow_places : (R : List Rule) (heads : Heads) → AreHeadsOf R heads → (l : Label) (first : Option Label) (pair : ℕ × ℕ) → pair ∈ narrow_of heads l first → IsPlace R pair
narrow_places R heads are l None pair i = absurd i
narrow_places R heads are l (Some k) pair i = are.places l (Some k) pair i
