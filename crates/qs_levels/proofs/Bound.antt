-- The level bound: from the second round on each firing uses an arc of the round before, so what the n-th round builds
-- has roots with levels from n on.
use Rattle.std.proofs.Common.{◌≡◌, ◌⊎◌, ℕ, zero, suc, ◌+◌, ◌-◌, ◌<◌, ◌≤◌, List, [], ◌∷◌, ◌++◌, length, map, take, Option, Some, None, slice_get, unwrap_or, refl, sym, ◌∙◌, ap, subst, inl, inr, ⊎_elim, arith}
use Rattle.std.specs.Option.{option_map}
use Rattle.std.specs.List.{cons_option}
use Rattle.std.proofs.Math.Seq.{take-append_seam}
use Rattle.std.proofs.lemmas.List.{map-append}
use Rattle.std.proofs.lemmas.Option.{slice_get_within}
use Rattle.qs_tree.specs.Lists.{◌∈◌}
use Rattle.qs_tree.specs.Trees.{Tree}
use Rattle.qs_tree.specs.declared.cell.Label.{Label}
use Rattle.qs_tree.proofs.Members.{in_at, in_append_left, in_append_right}
use Rattle.qs_pattern.specs.Rules.{Rule, IsAccepted, AreLeftSidesInClass}
use Rattle.qs_pattern.specs.Instances.{inst}
use Rattle.qs_graph.specs.Graphs.{Arc, QGraph, Leads, arcs_at, trees_on}
use Rattle.qs_graph.specs.Chains.{chain}
use Rattle.qs_firing.specs.Firings.{Firing, Fires}
use Rattle.qs_firing.specs.Adding.{start_of, end_of, built, added, first_arc, meets}
use Rattle.qs_firing.proofs.Merging.{in_added}
use Rattle.qs_firing.proofs.Within.{IsWithin, within_refl, within_trans, within_adds}
use Rattle.qs_firing.proofs.Works.{fires_front}
use Rattle.qs_canon.specs.Rounds.{Round, Rounds, Stage, Done, firings, after, after_one, start}
use Rattle.qs_canon.proofs.Existence.{has_rounds}
use Rattle.qs_levels.specs.Tops.{top_labels}
use Rattle.qs_levels.specs.Certificates.{LevelCertificate, HasLevel, Fits, ClosesBefore}
use Rattle.qs_levels.proofs.Roots.{root_at_top, some_top}
use Rattle.qs_graph.proofs.Lay.{tree_in_chain}

-- what stands in one list behind another stands in the first or is a member of the second
at_append : {X : Type 0} (xs ys : List X) (k : ℕ) (y : X) → slice_get (xs ++ ys) k ≡ Some y → (slice_get xs k ≡ Some y) ⊎ (y ∈ ys)
at_append [] ys k y e = inr (in_at ys k y e)
at_append (x ∷ xs) ys zero y e = inl e
at_append (x ∷ xs) ys (suc k) y e = at_append xs ys k y e

-- the tree of an arc of a path is one of the trees on it
in_trees : (arcs : List Arc) (ks : List ℕ) (k : ℕ) (arc : Arc) → k ∈ ks → slice_get arcs k ≡ Some arc → arc.tree ∈ trees_on arcs ks
in_trees arcs [] k arc i is = absurd i
in_trees arcs (m ∷ ks) k arc (inl e) is =
    let here : slice_get arcs m ≡ Some arc = ap (slice_get arcs) (sym e) ∙ is in
    subst (λ o. arc.tree ∈ map (λ (x : Arc). x.tree) (cons_option o (arcs_at arcs ks))) (sym here) (inl refl)
in_trees arcs (m ∷ ks) k arc (inr i) is = behind (slice_get arcs m) (in_trees arcs ks k arc i is)
  where
    behind : (o : Option Arc) → arc.tree ∈ trees_on arcs ks → arc.tree ∈ map (λ (x : Arc). x.tree) (cons_option o (arcs_at arcs ks))
    behind None j = j
    behind (Some x) j = inr j

module _ (R : List Rule) where
  -- one of these firings built the tree of the arc
  record IsBuilt (F : List Firing) (arc : Arc) : Type 0 where
    firing : Firing
    is_in : firing ∈ F
    tree : arc.tree ∈ built R firing

  -- an arc that stands after some firings stood before, or one of them built its tree
  after_arcs : (n : ℕ) (S : Stage) (F : List Firing) (k : ℕ) (arc : Arc) → slice_get (after R n S F).graph.arcs k ≡ Some arc → (slice_get S.graph.arcs k ≡ Some arc) ⊎ IsBuilt F arc
  after_arcs n S [] k arc e = inl e
  after_arcs n S (f ∷ fs) k arc e = ⊎_elim
      (λ h. ⊎_elim inl
      (λ i. inr (record { firing = f; is_in = inl refl; tree = in_added R S.graph f arc.tree (tree_in_chain (start_of S.graph.arcs f.path) (added R S.graph f) (S.graph.nodes + 1) (end_of S.graph.arcs f.path) arc i) }))
      (at_append S.graph.arcs (chain (start_of S.graph.arcs f.path) (added R S.graph f) (S.graph.nodes + 1) (end_of S.graph.arcs f.path)) k arc h))
      (λ b. inr (record { firing = b.firing; is_in = inr b.is_in; tree = b.tree }))
      (after_arcs n (after_one R n S f) fs k arc e)

  after_within : (n : ℕ) (S : Stage) (F : List Firing) → IsWithin S.graph (after R n S F).graph
  after_within n S [] = within_refl S.graph S.graph refl
  after_within n S (f ∷ fs) = within_trans (within_adds R S.graph f) (after_within n (after_one R n S f) fs)

  -- what was done, and what is done now, is done afterwards
  after_done : (n : ℕ) (S : Stage) (F : List Firing) (f : Firing) → (f ∈ firings S) ⊎ (f ∈ F) → f ∈ firings (after R n S F)
  after_done n S [] f (inl i) = i
  after_done n S [] f (inr i) = absurd i
  after_done n S (g ∷ fs) f w = after_done n (after_one R n S g) fs f (now w)
    where
      are : firings (after_one R n S g) ≡ firings S ++ g ∷ []
      are = map-append (λ (d : Done). d.firing) S.done (record { firing = g; first = first_arc R S.graph g; round = n; met = meets R S.graph g } ∷ [])

      now : (f ∈ firings S) ⊎ (f ∈ (g ∷ fs)) → (f ∈ firings (after_one R n S g)) ⊎ (f ∈ fs)
      now (inl i) = inl (subst (λ gs. f ∈ gs) (sym are) (in_append_left (firings S) (g ∷ []) f i))
      now (inr (inl e)) = inl (subst (λ gs. f ∈ gs) (sym are) (in_append_right (firings S) (g ∷ []) f (inl e)))
      now (inr (inr i)) = inr i

  -- one of the arcs of a path was built by these firings
  record UsesBuilt (arcs : List Arc) (F : List Firing) (path : List ℕ) : Type 0 where
    arc : Arc
    place : ℕ
    on_path : place ∈ path
    is_arc : slice_get arcs place ≡ Some arc
    built_now : IsBuilt F arc

  -- a path after some firings has arcs alone that stood before, or one of them built an arc of it
  path_cases : (n : ℕ) (S : Stage) (F : List Firing) (a : ℕ) (ks : List ℕ) (b : ℕ) → Leads (after R n S F).graph.arcs a ks b
      → ((k : ℕ) → k ∈ ks → k < length S.graph.arcs) ⊎ UsesBuilt (after R n S F).graph.arcs F ks
  path_cases n S F a [] b l = inl (λ k i. absurd i)
  path_cases n S F a (k ∷ ks) b (arc, is, e, l) = by (after_arcs n S F k arc is) (path_cases n S F arc.to ks b l)
    where
      by : (slice_get S.graph.arcs k ≡ Some arc) ⊎ IsBuilt F arc → ((j : ℕ) → j ∈ ks → j < length S.graph.arcs) ⊎ UsesBuilt (after R n S F).graph.arcs F ks
          → ((j : ℕ) → j ∈ (k ∷ ks) → j < length S.graph.arcs) ⊎ UsesBuilt (after R n S F).graph.arcs F (k ∷ ks)
      by (inr b) rest = inr (record { arc = arc; place = k; on_path = inl refl; is_arc = is; built_now = b })
      by (inl h) (inr u) = inr (record { arc = u.arc; place = u.place; on_path = inr u.on_path; is_arc = u.is_arc; built_now = u.built_now })
      by (inl h) (inl low) = inl (λ j i. ⊎_elim (λ s. let w = slice_get_within S.graph.arcs k arc h in omega arith) (low j) i)

  module _ (accepted : (rule : Rule) → rule ∈ R → IsAccepted rule) (c : LevelCertificate) (fits : Fits R c) (G : QGraph) where
    -- the rule of a firing has a left label whose level is at least n
    pub record IsDeep (n : ℕ) (f : Firing) : Type 0 where
      pub rule : Rule
      pub is_rule : slice_get R f.rule ≡ Some rule
      pub label : Label
      pub is_left : label ∈ top_labels rule.left
      pub level : ℕ
      pub has : HasLevel c label level
      pub at_least : n ≤ level

    -- so each tree that it builds has a root whose level is greater than n
    pub above : (n : ℕ) (f : Firing) → IsDeep n f → (t : Tree) → t ∈ built R f → (m : ℕ) → HasLevel c t.root m → n < m
    above n f d t i m has =
        let is : built R f ≡ inst f.values d.rule.right = ap (λ o. unwrap_or (option_map (λ (rule : Rule). inst f.values rule.right) o) []) d.is_rule in
        let one = in_at R f.rule d.rule d.is_rule in
        let root = root_at_top f.values d.rule.right (fits.right_tops d.rule one) t (subst (λ ts. t ∈ ts) is i) in
        let rises : d.level < m = fits.rises d.rule one d.label t.root d.is_left root d.level m d.has has in
        omega (arith, d.at_least)

    pub deep : (n : ℕ) (S : Stage) → Rounds R G n S → (f : Firing) → Fires R S.graph.arcs f → (f ∈ firings S → ⊥) → IsDeep n f
    deep zero S e f r new =
        let one = in_at R f.rule r.rule r.is_rule in
        let (l, i) = some_top r.rule.left (fits.left_tops r.rule one) (accepted r.rule one).left.some in
        let (m, has) = fits.levels r.rule one l (in_append_left (top_labels r.rule.left) (top_labels r.rule.right) l i) in
        record { rule = r.rule; is_rule = r.is_rule; label = l; is_left = i; level = m; has = has; at_least = omega arith }
    deep (suc n) S (B, F, b, round, e) f fires new = by (λ g i. deep n B b g (round.fires g i) (round.new g i)) (path_cases (suc n) B F r.from f.path r.to r.path.leads)
      where
        r : Fires R (after R (suc n) B F).graph.arcs f
        r = subst (λ (X : Stage). Fires R X.graph.arcs f) e fires

        by : ((g : Firing) → g ∈ F → IsDeep n g) → ((k : ℕ) → k ∈ f.path → k < length B.graph.arcs) ⊎ UsesBuilt (after R (suc n) B F).graph.arcs F f.path → IsDeep (suc n) f
        by was (inl low) =
            let w = after_within (suc n) B F in
            let same : take (length B.graph.arcs) (after R (suc n) B F).graph.arcs ≡ B.graph.arcs = ap (take (length B.graph.arcs)) w.arcs ∙ take-append_seam B.graph.arcs w.more in
            let before : Fires R B.graph.arcs f = subst (λ arcs. Fires R arcs f) same (fires_front R (length B.graph.arcs) (after R (suc n) B F).graph.arcs f r low) in
            let done : f ∈ firings S = subst (λ (X : Stage). f ∈ firings X) (sym e) (after_done (suc n) B F f (round.all f before)) in
            absurd (new done)
        by was (inr u) =
            let d = was u.built_now.firing u.built_now.is_in in
            let one = in_at R f.rule r.rule r.is_rule in
            let on = in_trees (after R (suc n) B F).graph.arcs f.path u.place u.arc u.on_path u.is_arc in
            let root = root_at_top f.values r.rule.left (fits.left_tops r.rule one) u.arc.tree (subst (λ ts. u.arc.tree ∈ ts) (sym r.matches.instance) on) in
            let (m, has) = fits.levels r.rule one u.arc.tree.root (in_append_left (top_labels r.rule.left) (top_labels r.rule.right) u.arc.tree.root root) in
            let high : n < m = above n u.built_now.firing d u.arc.tree u.built_now.tree m has in
            record { rule = r.rule; is_rule = r.is_rule; label = u.arc.tree.root; is_left = root; level = m; has = has; at_least = omega arith }

    pub roots : (n : ℕ) (S : Stage) (F : List Firing) → Rounds R G n S → Round R S.graph (firings S) F → (f : Firing) → f ∈ F → (t : Tree) → t ∈ built R f → (m : ℕ) → HasLevel c t.root m → n + 1 ≤ m
    roots n S F s round f i t j m has =
        let high : n < m = above n f (deep n S s f (round.fires f i) (round.new f i)) t j m has in
        omega arith

    pub empty : (n : ℕ) (S : Stage) (F : List Firing) → Rounds R G n S → Round R S.graph (firings S) F → c.count ≤ n + 1 → F ≡ []
    empty n S [] s round late = refl
    empty n S (f ∷ fs) s round late =
        let d = deep n S s f (round.fires f (inl refl)) (round.new f (inl refl)) in
        let one = in_at R f.rule d.rule d.is_rule in
        let (t, i) = some_top d.rule.right (fits.right_tops d.rule one) (accepted d.rule one).right.some in
        let (m, has) = fits.levels d.rule one t (in_append_right (top_labels d.rule.left) (top_labels d.rule.right) t i) in
        let rises : d.level < m = fits.rises d.rule one d.label t d.is_left i d.level m d.has has in
        let below : m < c.count = fits.below t m has in
        absurd (omega (arith, d.at_least))

    in_class : AreLeftSidesInClass R
    in_class rule i = (accepted rule i).left.in_class

    reached : (n : ℕ) → (S : Stage) × Rounds R G n S
    reached zero = (start G, refl)
    reached (suc n) =
        let (B, b) = reached n in
        let (F, round) = has_rounds R in_class B.graph (firings B) in
        (after R (suc n) B F, (B, F, b, round, refl))

    pub closes : ClosesBefore R G c.count
    closes =
        let (S, s) = reached (c.count - 1) in
        let (F, round) = has_rounds R in_class S.graph (firings S) in
        let some = fits.some in
        let none : F ≡ [] = empty (c.count - 1) S F s round (omega arith) in
        record {
          closure = S;
          closes = record { rounds = c.count - 1; reached = s; closed = subst (λ (E : List Firing). Round R S.graph (firings S) E) none round };
          early = omega arith;
        }
