-- Whether a firing fires is decided.
use Rattle.std.proofs.Common.{◌≡◌, ℕ, List, [], ◌∷◌, length, refl, sym, ◌∙◌, ap, subst, arith, Option, Some, None, slice_get}
use Rattle.qs_pattern.specs.Patterns.{count}
use Rattle.qs_pattern.specs.Instances.{IsMatch}
use Rattle.qs_pattern.specs.Conditions.{HoldsIfGiven}
use Rattle.qs_pattern.specs.Rules.{Rule}
use Rattle.qs_graph.specs.Graphs.{Arc, Leads, IsPath, trees_on}
use Rattle.qs_firing.specs.Firings.{Firing, Fires}
use Rattle.qs_tree.proofs.Decisions.{nothing_there, same_there, decide_number, decide_list}
use Rattle.qs_pattern.proofs.MatchDecisions.{decide_substitution, decide_match, decide_if_given}

-- whether these arcs lead on from a node
abbrev pub decide_leads : (arcs : List Arc) (a : ℕ) (ks : List ℕ) → Dec ((b : ℕ) × Leads arcs a ks b)
decide_leads arcs a [] = yes (a, refl)
decide_leads arcs a (k ∷ ks) = at (slice_get arcs k) refl (λ n. decide_leads arcs n ks)
  where
    on : (arc : Arc) → slice_get arcs k ≡ Some arc → Dec (arc.from ≡ a) → Dec ((b : ℕ) × Leads arcs arc.to ks b) → Dec ((b : ℕ) × Leads arcs a (k ∷ ks) b)
    on arc is (yes e) (yes l) = yes (l.0, (arc, is, e, l.1))
    on arc is (no n) l = no (λ (b, (other, at, e, rest)). n (ap (λ (x : Arc). x.from) (same_there is at) ∙ e))
    on arc is e (no n) = no (λ (b, (other, at, e, rest)). n (b, subst (λ (x : Arc). Leads arcs x.to ks b) (same_there at is) rest))

    at : (o : Option Arc) → slice_get arcs k ≡ o → ((n : ℕ) → Dec ((b : ℕ) × Leads arcs n ks b)) → Dec ((b : ℕ) × Leads arcs a (k ∷ ks) b)
    at None is rest = no (λ (b, (other, at, e, l)). nothing_there is at)
    at (Some arc) is rest = on arc is (decide_number arc.from a) (rest arc.to)

-- a path starts where its first arc does
abbrev pub decide_path : (arcs : List Arc) (path : List ℕ) → Dec ((a : ℕ) × (b : ℕ) × IsPath arcs a path b)
decide_path arcs [] = no (λ (a, b, p). omega (arith, p.some))
decide_path arcs (k ∷ ks) = at (slice_get arcs k) refl (λ n. decide_leads arcs n (k ∷ ks))
  where
    on : (arc : Arc) → slice_get arcs k ≡ Some arc → Dec ((b : ℕ) × Leads arcs arc.from (k ∷ ks) b) → Dec ((a : ℕ) × (b : ℕ) × IsPath arcs a (k ∷ ks) b)
    on arc is (yes l) = yes (arc.from, l.0, record { some = omega arith; leads = l.1 })
    on arc is (no n) = no (λ (a, b, p).
        let (other, at, e, rest) = p.leads in
        let same : arc.from ≡ a = ap (λ (x : Arc). x.from) (same_there is at) ∙ e in
        n (b, subst (λ (x : ℕ). Leads arcs x (k ∷ ks) b) (sym same) p.leads))

    at : (o : Option Arc) → slice_get arcs k ≡ o → ((n : ℕ) → Dec ((b : ℕ) × Leads arcs n (k ∷ ks) b)) → Dec ((a : ℕ) × (b : ℕ) × IsPath arcs a (k ∷ ks) b)
    at None is f = no (λ (a, b, p). let (other, at, e, rest) = p.leads in nothing_there is at)
    at (Some arc) is f = on arc is (f arc.from)

abbrev pub decide_firing : (f g : Firing) → Dec (f ≡ g)
decide_firing f g = all_of (decide_number f.rule g.rule) (decide_list decide_number f.path g.path) (decide_substitution f.values g.values)
  where
    all_of : Dec (f.rule ≡ g.rule) → Dec (f.path ≡ g.path) → Dec (f.values ≡ g.values) → Dec (f ≡ g)
    all_of (yes r) (yes p) (yes v) = yes (λ i. record { rule = r i; path = p i; values = v i })
    all_of (no n) p v = no (λ e. n (ap (λ (x : Firing). x.rule) e))
    all_of r (no n) v = no (λ e. n (ap (λ (x : Firing). x.path) e))
    all_of r p (no n) = no (λ e. n (ap (λ (x : Firing). x.values) e))

-- f fires by this rule
pub record FiresBy (arcs : List Arc) (f : Firing) (rule : Rule) : Type 0 where
  pub path : (a : ℕ) × (b : ℕ) × IsPath arcs a f.path b
  pub long : length f.path ≡ count rule.left
  pub matches : IsMatch rule.left (trees_on arcs f.path) f.values
  pub holds : HoldsIfGiven rule.condition f.values

abbrev decide_fires_by : (arcs : List Arc) (f : Firing) (rule : Rule) → Dec (FiresBy arcs f rule)
decide_fires_by arcs f rule =
    all_of (decide_path arcs f.path) (decide_number (length f.path) (count rule.left)) (decide_match rule.left (trees_on arcs f.path) f.values) (decide_if_given rule.condition f.values)
  where
    all_of : Dec ((a : ℕ) × (b : ℕ) × IsPath arcs a f.path b) → Dec (length f.path ≡ count rule.left) → Dec (IsMatch rule.left (trees_on arcs f.path) f.values)
        → Dec (HoldsIfGiven rule.condition f.values) → Dec (FiresBy arcs f rule)
    all_of (yes p) (yes l) (yes m) (yes h) = yes (record { path = p; long = l; matches = m; holds = h })
    all_of (no n) l m h = no (λ r. n r.path)
    all_of p (no n) m h = no (λ r. n r.long)
    all_of p l (no n) h = no (λ r. n r.matches)
    all_of p l m (no n) = no (λ r. n r.holds)

abbrev pub decide_fires : (R : List Rule) (arcs : List Arc) (f : Firing) → Dec (Fires R arcs f)
decide_fires R arcs f = at (slice_get R f.rule) refl
  where
    by : (rule : Rule) → slice_get R f.rule ≡ Some rule → Dec (FiresBy arcs f rule) → Dec (Fires R arcs f)
    by rule is (yes r) = yes (record { rule = rule; is_rule = is; from = r.path.0; to = r.path.1; path = r.path.2; long = r.long; matches = r.matches; holds = r.holds })
    by rule is (no n) = no (λ r.
        n (subst (FiresBy arcs f) (same_there r.is_rule is) (record { path = (r.from, r.to, r.path); long = r.long; matches = r.matches; holds = r.holds })))

    at : (o : Option Rule) → slice_get R f.rule ≡ o → Dec (Fires R arcs f)
    at None is = no (λ r. nothing_there is r.is_rule)
    at (Some rule) is = by rule is (decide_fires_by arcs f rule)
