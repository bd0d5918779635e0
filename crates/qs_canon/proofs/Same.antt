-- An arc, a node or a firing of the one graph is at most one of the other.
use Rattle.std.proofs.Common.{◌≡◌, ℕ, ◌+◌, ◌<◌, ◌≤◌, true, false, List, [], length, refl, sym, ◌∙◌, ap, subst, inl, inr, ⊎_elim, ◌⊎◌, arith, Some, slice_get, unwrap_or}
use Rattle.std.specs.Option.{option_map}
use Rattle.qs_tree.specs.Trees.{Tree}
use Rattle.qs_pattern.specs.Instances.{inst}
use Rattle.qs_pattern.specs.Rules.{Rule, all_unique}
use Rattle.qs_graph.specs.Graphs.{Arc, QGraph}
use Rattle.qs_firing.specs.Firings.{Firing}
use Rattle.qs_firing.specs.Adding.{adds, added, built}
use Rattle.qs_firing.proofs.Merging.{not_unique, not_one, unmet-added}
use Rattle.qs_firing.proofs.Within.{IsWithin, within_length, length-adds}
use Rattle.qs_core.specs.Growth.{Grown, DoneAt, AllApart, NoTwins}
use Rattle.qs_canon.specs.working.Same.{width, SameArc, SamePath, SameFiring, SameNode, of_start, of_firing, of_ends, no_arc, and_arc, node_of_start, node_of_firing}
use Rattle.qs_canon.proofs.Histories.{stands, disjoint, one_place}

same_firing : (f g : Firing) → f.rule ≡ g.rule → f.values ≡ g.values → f.path ≡ g.path → f ≡ g
same_firing f g r v p = λ i. record { rule = r i; path = p i; values = v i }

-- where the rules aren't unique a firing adds all that it builds, and where it builds several trees
pub adds_all : (R : List Rule) (P : QGraph) (f : Firing) → all_unique R ≡ false → length (added R P f) ≡ width R f
adds_all R P f e = ap length (unmet-added R P f (not_unique R P f e))

pub adds_many : (R : List Rule) (P : QGraph) (f : Firing) (i : ℕ) → 1 ≤ i → i < width R f → length (added R P f) ≡ width R f
adds_many R P f i some w = ap length (unmet-added R P f (not_one R P f (λ e. omega arith)))

module _ (R : List Rule) (G : QGraph) (fs gs : List Firing) (H K : QGraph) (grown : Grown R G fs H) (once : AllApart gs) (twins : all_unique R ≡ true → NoTwins G K) where
  -- an added arc is not the start's
  not_start : (f : Firing) (P : QGraph) (j k : ℕ) → DoneAt R G fs f P → k ≡ length P.arcs + j → k < length G.arcs → ⊥
  not_start f P j k a e low = omega (arith, within_length (stands R G fs H f P grown a).before)

  -- arcs that are one were added by one firing, at one place
  one_origin : all_unique R ≡ false → (f g : Firing) (P Q : QGraph) (i j k : ℕ) → DoneAt R G fs f P → DoneAt R G fs g Q → i < width R f → j < width R g → k ≡ length P.arcs + i → k ≡ length Q.arcs + j
      → (f ≡ g) × (P ≡ Q) × (i ≡ j)
  one_origin u f g P Q i j k a b wf wg ef eg = ⊎_elim
      (λ (e, p). (e, p, omega (arith, ap (λ (X : QGraph). length X.arcs) p)))
      (⊎_elim
      (λ w. absurd (omega (arith, within_length w, length-adds R P f, adds_all R P f u)))
      (λ w. absurd (omega (arith, within_length w, length-adds R Q g, adds_all R Q g u))))
      (disjoint R G fs H f P g Q grown a b)

  mutual
    pub one_arc : {k l m : ℕ} → SameArc R G fs gs H K k l → SameArc R G fs gs H K k m → l ≡ m
    one_arc (of_start low e) (of_start low' d) = sym e ∙ d
    one_arc {k = k} (of_start low e) (of_firing u f g P Q j fa ga r v p w ke le) = absurd (not_start f P j k fa ke low)
    one_arc (of_start low e) (of_ends u a b ai bi kn ln f t tr) = absurd (omega arith)
    one_arc {k = k} (of_firing u f g P Q j fa ga r v p w ke le) (of_start low e) = absurd (not_start f P j k fa ke low)
    one_arc {k = k} {l = l} {m = m} (of_firing u f g P Q j fa ga r v p w ke le) (of_firing u' f' g' P' Q' j' fa' ga' r' v' p' w' ke' le') =
        let (e, d, i) = one_origin u f f' P P' j j' k fa fa' w w' ke ke' in
        let q : SamePath R G fs gs H K f.path g'.path = subst (λ (x : Firing). SamePath R G fs gs H K x.path g'.path) (sym e) p' in
        let b : g ≡ g' = same_firing g g' (sym r ∙ ap (λ (x : Firing). x.rule) e ∙ r') (sym v ∙ ap (λ (x : Firing). x.values) e ∙ v') (one_path p q) in
        let c : Q ≡ Q' = one_place R G gs g Q Q' once ga (subst (λ x. DoneAt R G gs x Q') (sym b) ga') in
        omega (arith, ap (λ (X : QGraph). length X.arcs) c)
    one_arc (of_firing u f g P Q j fa ga r v p w ke le) (of_ends u' a b ai bi kn ln fr t tr) = absurd cc
    one_arc (of_ends u a b ai bi kn ln f t tr) (of_start low e) = absurd (omega arith)
    one_arc (of_ends u a b ai bi kn ln fr t tr) (of_firing u' f g P Q j fa ga r v p w ke le) = absurd cc
    one_arc {l = l} {m = m} (of_ends u a b ai bi kn ln f t tr) (of_ends u' a' b' ai' bi' kn' ln' f' t' tr') =
        let same : Some a ≡ Some a' = sym ai ∙ ai' in
        let e : a ≡ a' = cc in
        let from : b.from ≡ b'.from = one_node f (subst (λ (x : Arc). SameNode R G fs gs H K x.from b'.from) (sym e) f') in
        let to : b.to ≡ b'.to = one_node t (subst (λ (x : Arc). SameNode R G fs gs H K x.to b'.to) (sym e) t') in
        let tree : b.tree ≡ b'.tree = sym tr ∙ ap (λ (x : Arc). x.tree) e ∙ tr' in
        let d : b ≡ b' = (λ i. record { from = from i; to = to i; tree = tree i }) in
        twins u l m b' (bi ∙ ap Some d) bi' ln'

    pub one_path : {ks ls ms : List ℕ} → SamePath R G fs gs H K ks ls → SamePath R G fs gs H K ks ms → ls ≡ ms
    one_path no_arc no_arc = refl
    one_path (and_arc {l = l} {ls = ls} s t) (and_arc {l = m} {ls = ms} s' t') = let e : l ≡ m = one_arc s s' in let d : ls ≡ ms = one_path t t' in cc

    pub one_node : {n m m' : ℕ} → SameNode R G fs gs H K n m → SameNode R G fs gs H K n m' → m ≡ m'
    one_node (node_of_start low e) (node_of_start low' d) = sym e ∙ d
    one_node (node_of_start low e) (node_of_firing f g P Q i fa ga r v p some w ne me) = absurd (omega (arith, (stands R G fs H f P grown fa).before.nodes))
    one_node (node_of_firing f g P Q i fa ga r v p some w ne me) (node_of_start low e) = absurd (omega (arith, (stands R G fs H f P grown fa).before.nodes))
    one_node {n = n} {m = m} {m' = m'} (node_of_firing f g P Q i fa ga r v p some w ne me) (node_of_firing f' g' P' Q' i' fa' ga' r' v' p' some' w' ne' me') =
        same (λ q. one_path p q) (disjoint R G fs H f P f' P' grown fa fa')
      where
        same : (SamePath R G fs gs H K f.path g'.path → g.path ≡ g'.path) → ((f ≡ f') × (P ≡ P')) ⊎ (IsWithin (adds R P f) P' ⊎ IsWithin (adds R P' f') P) → m ≡ m'
        same paths (inl (e, d)) =
            let q = paths (subst (λ (x : Firing). SamePath R G fs gs H K x.path g'.path) (sym e) p') in
            let b : g ≡ g' = same_firing g g' (sym r ∙ ap (λ (x : Firing). x.rule) e ∙ r') (sym v ∙ ap (λ (x : Firing). x.values) e ∙ v') q in
            let c : Q ≡ Q' = one_place R G gs g Q Q' once ga (subst (λ x. DoneAt R G gs x Q') (sym b) ga') in
            omega (arith, ap (λ (X : QGraph). X.nodes) c, ap (λ (X : QGraph). X.nodes) d)
        same paths (inr (inl u)) = absurd (omega (arith, u.nodes, adds_many R P f i some w))
        same paths (inr (inr u)) = absurd (omega (arith, u.nodes, adds_many R P' f' i' some' w'))

  pub one_firing : {f g g' : Firing} → SameFiring R G fs gs H K f g → SameFiring R G fs gs H K f g' → g ≡ g'
  one_firing {g = g} {g' = g'} s t = same_firing g g' (sym s.rule ∙ t.rule) (sym s.values ∙ t.values) (one_path s.path t.path)

pub built_same : (R : List Rule) (f g : Firing) → f.rule ≡ g.rule → f.values ≡ g.values → built R f ≡ built R g
built_same R f g r v = λ i. unwrap_or (option_map (λ (rule : Rule). inst (v i) rule.right) (slice_get R (r i))) []

-- sameness the other way round
mutual
  pub turned_arc : {R : List Rule} {G : QGraph} {fs gs : List Firing} {H K : QGraph} {k l : ℕ} → SameArc R G fs gs H K k l → SameArc R G gs fs K H l k
  turned_arc {G = G} (of_start low e) = of_start (subst (λ x. x < length G.arcs) e low) (sym e)
  turned_arc {R = R} (of_firing u f g P Q j fa ga r v p w ke le) = of_firing u g f Q P j ga fa (sym r) (sym v) (turned_path p) (subst (λ (ts : List Tree). j < length ts) (built_same R f g r v) w) le ke
  turned_arc (of_ends u a b ai bi kn ln f t tr) = of_ends u b a bi ai ln kn (turned_node f) (turned_node t) (sym tr)

  pub turned_path : {R : List Rule} {G : QGraph} {fs gs : List Firing} {H K : QGraph} {ks ls : List ℕ} → SamePath R G fs gs H K ks ls → SamePath R G gs fs K H ls ks
  turned_path no_arc = no_arc
  turned_path (and_arc s t) = and_arc (turned_arc s) (turned_path t)

  pub turned_node : {R : List Rule} {G : QGraph} {fs gs : List Firing} {H K : QGraph} {n m : ℕ} → SameNode R G fs gs H K n m → SameNode R G gs fs K H m n
  turned_node {G = G} (node_of_start low e) = node_of_start (subst (λ x. x ≤ G.nodes) e low) (sym e)
  turned_node {R = R} (node_of_firing f g P Q i fa ga r v p some w ne me) =
      node_of_firing g f Q P i ga fa (sym r) (sym v) (turned_path p) some (subst (λ (ts : List Tree). i < length ts) (built_same R f g r v) w) me ne

pub turned_firing : {R : List Rule} {G : QGraph} {fs gs : List Firing} {H K : QGraph} {f g : Firing} → SameFiring R G fs gs H K f g → SameFiring R G gs fs K H g f
turned_firing s = record { rule = sym s.rule; values = sym s.values; path = turned_path s.path }
