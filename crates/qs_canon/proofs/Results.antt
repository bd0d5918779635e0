-- The results of firings that are the same are the same, in order.
use Rattle.std.proofs.Common.{◌≡◌, ℕ, zero, suc, ◌+◌, ◌<◌, ◌≤◌, Bool, true, false, List, [], ◌∷◌, ◌++◌, length, refl, sym, ◌∙◌, ap, subst, inl, inr, ⊎_elim, arith, Option, Some, None, slice_get}
use Rattle.std.proofs.lemmas.Bool.{cases_lt}
use Rattle.qs_tree.proofs.Elements.{exists_at}
use Rattle.qs_tree.specs.Lists.{◌∈◌}
use Rattle.qs_tree.specs.Trees.{Tree}
use Rattle.qs_tree.proofs.Members.{in_at}
use Rattle.qs_pattern.specs.Rules.{Rule, all_unique}
use Rattle.qs_graph.specs.Graphs.{Arc, QGraph}
use Rattle.qs_graph.specs.Chains.{chain}
use Rattle.qs_graph.proofs.Lines.{length-chain}
use Rattle.qs_firing.specs.Firings.{Firing}
use Rattle.qs_firing.specs.Adding.{adds, built, met, start_of, end_of, from_on, result_by, result_arcs}
use Rattle.qs_firing.proofs.Merging.{arc, least_is, least_low, Meeting, meeting, met_at, unmet-added}
use Rattle.qs_firing.proofs.Within.{IsWithin, arc_stays, within_trans, within_adds, within_length}
use Rattle.qs_core.specs.Growth.{Grown, DoneAt}
use Rattle.qs_core.proofs.Twins.{HasEnds}
use Rattle.qs_canon.specs.working.Same.{width, SameArc, SamePath, SameFiring, SameNode, of_start, of_firing, of_ends, no_arc, and_arc, node_of_start, node_of_firing}
use Rattle.qs_canon.proofs.Histories.{stands}
use Rattle.qs_canon.proofs.Same.{built_same, turned_path, turned_node, turned_firing}

slice_get_behind : {X : Type 0} (xs ys : List X) (j : ℕ) → slice_get (xs ++ ys) (length xs + j) ≡ slice_get ys j
slice_get_behind [] ys j = let e : 0 + j ≡ j = omega arith in rw e refl
slice_get_behind (x ∷ xs) ys j = let e : suc (length xs) + j ≡ suc (length xs + j) = omega arith in rw e (slice_get_behind xs ys j)

slice_get_back : {X : Type 0} (xs ys : List X) (k : ℕ) (x : X) → k < length xs → slice_get (xs ++ ys) k ≡ Some x → slice_get xs k ≡ Some x
slice_get_back [] ys k x h e = absurd (omega arith)
slice_get_back (z ∷ xs) ys zero x h e = e
slice_get_back (z ∷ xs) ys (suc k) x h e = slice_get_back xs ys k x (omega arith) e

pub arc_back : {G H : QGraph} → IsWithin G H → (k : ℕ) (arc : Arc) → k < length G.arcs → slice_get H.arcs k ≡ Some arc → slice_get G.arcs k ≡ Some arc
arc_back {G} w k arc h e = slice_get_back G.arcs w.more k arc h (ap (λ xs. slice_get xs k) (sym w.arcs) ∙ e)

-- two chains of the same trees have related ends at each place, where their own ends and inner nodes are related
pub chain_related : (Rel : ℕ → ℕ → Type 0) (a a' : ℕ) (ts : List Tree) (next next' b b' : ℕ) → Rel a a' → Rel b b' → ((i : ℕ) → i + 1 < length ts → Rel (next + i) (next' + i))
    → (j : ℕ) (arc : Arc) → slice_get (chain a ts next b) j ≡ Some arc
    → (other : Arc) × (slice_get (chain a' ts next' b') j ≡ Some other) × Rel arc.from other.from × Rel arc.to other.to × (arc.tree ≡ other.tree)
chain_related Rel a a' [] next next' b b' ra rb inner j arc is = absurd cc
chain_related Rel a a' (t ∷ []) next next' b b' ra rb inner zero arc is =
    let e : record { from = a; to = b; tree = t } ≡ arc = cc in
    subst (λ (x : Arc). (other : Arc) × (slice_get (chain a' (t ∷ []) next' b') zero ≡ Some other) × Rel x.from other.from × Rel x.to other.to × (x.tree ≡ other.tree)) e
    (record { from = a'; to = b'; tree = t }, refl, ra, rb, refl)
chain_related Rel a a' (t ∷ []) next next' b b' ra rb inner (suc j) arc is = absurd cc
chain_related Rel a a' (t ∷ u ∷ ts) next next' b b' ra rb inner zero arc is =
    let e : record { from = a; to = next; tree = t } ≡ arc = cc in
    let n : next + 0 ≡ next = omega arith in
    let n' : next' + 0 ≡ next' = omega arith in
    let r : Rel next next' = subst (λ x. Rel x next') n (subst (λ x. Rel (next + 0) x) n' (inner 0 (omega arith))) in
    subst (λ (x : Arc). (other : Arc) × (slice_get (chain a' (t ∷ u ∷ ts) next' b') zero ≡ Some other) × Rel x.from other.from × Rel x.to other.to × (x.tree ≡ other.tree)) e
    (record { from = a'; to = next'; tree = t }, refl, ra, r, refl)
chain_related Rel a a' (t ∷ u ∷ ts) next next' b b' ra rb inner (suc j) arc is =
    let n : next + 0 ≡ next = omega arith in
    let n' : next' + 0 ≡ next' = omega arith in
    let r : Rel next next' = subst (λ x. Rel x next') n (subst (λ x. Rel (next + 0) x) n' (inner 0 (omega arith))) in
    chain_related Rel next next' (u ∷ ts) (next + 1) (next' + 1) b b' r rb
    (λ i h. let m : next + suc i ≡ next + 1 + i = omega arith in let m' : next' + suc i ≡ next' + 1 + i = omega arith in
    subst (λ x. Rel x (next' + 1 + i)) m (subst (λ x. Rel (next + suc i) x) m' (inner (suc i) (omega arith))))
    j arc is

-- the chain of what a firing builds
abbrev pub chain_of : List Rule → QGraph → Firing → List Arc
chain_of R P f = chain (start_of P.arcs f.path) (built R f) (P.nodes + 1) (end_of P.arcs f.path)

-- where a firing meets no arc, the chain of what it builds stands behind what stood
pub added_at : (R : List Rule) (G : QGraph) (fs : List Firing) (H : QGraph) → Grown R G fs H → (f : Firing) (P : QGraph) → DoneAt R G fs f P → met R P f ≡ None → (j : ℕ) → j < width R f
    → (x : Arc) × (slice_get H.arcs (length P.arcs + j) ≡ Some x) × (slice_get (chain_of R P f) j ≡ Some x)
added_at R G fs H grown f P at unmet j w =
    let s = stands R G fs H f P grown at in
    let (x, is) = exists_at (chain_of R P f) j (omega (arith, length-chain (start_of P.arcs f.path) (built R f) (P.nodes + 1) (end_of P.arcs f.path))) in
    let here : slice_get (P.arcs ++ chain_of R P f) (length P.arcs + j) ≡ Some x = slice_get_behind P.arcs (chain_of R P f) j ∙ is in
    let there : slice_get (adds R P f).arcs (length P.arcs + j) ≡ Some x =
    ap (λ (ts : List Tree). slice_get (P.arcs ++ chain (start_of P.arcs f.path) ts (P.nodes + 1) (end_of P.arcs f.path)) (length P.arcs + j)) (unmet-added R P f unmet) ∙ here in
    (x, arc_stays s.after (length P.arcs + j) x there, is)

module _ (R : List Rule) (G : QGraph) (fs gs : List Firing) (H K : QGraph) where
  pub same_from_on : (m n n' : ℕ) → ((j : ℕ) → j < m → SameArc R G fs gs H K (n + j) (n' + j)) → SamePath R G fs gs H K (from_on n m) (from_on n' m)
  same_from_on zero n n' all = no_arc
  same_from_on (suc m) n n' all =
      let e : n + 0 ≡ n = omega arith in
      let e' : n' + 0 ≡ n' = omega arith in
      and_arc (subst (λ x. SameArc R G fs gs H K x n') e (subst (λ x. SameArc R G fs gs H K (n + 0) x) e' (all 0 (omega arith))))
      (same_from_on m (n + 1) (n' + 1) (λ j h.
      let d : n + suc j ≡ n + 1 + j = omega arith in
      let d' : n' + suc j ≡ n' + 1 + j = omega arith in
      subst (λ x. SameArc R G fs gs H K x (n' + 1 + j)) d (subst (λ x. SameArc R G fs gs H K (n + suc j) x) d' (all (suc j) (omega arith)))))

  pub of_path : {ks ls : List ℕ} → SamePath R G fs gs H K ks ls → (k : ℕ) → k ∈ ks → (l : ℕ) × SameArc R G fs gs H K k l
  of_path no_arc k i = absurd i
  of_path (and_arc {l = l} s t) k (inl e) = (l, subst (λ x. SameArc R G fs gs H K x l) (sym e) s)
  of_path (and_arc s t) k (inr i) = of_path t k i

  -- a start's node is itself
  pub node_is_start : Grown R G fs H → {n m : ℕ} → SameNode R G fs gs H K n m → n ≤ G.nodes → n ≡ m
  node_is_start grown (node_of_start low e) h = e
  node_is_start grown (node_of_firing f g P Q i fa ga r v p some w ne me) h = absurd (omega (arith, (stands R G fs H f P grown fa).before.nodes))

-- two firings that are the same, with the same ends
module _ (R : List Rule) (G : QGraph) (ends : HasEnds G) (fs gs : List Firing) (H K : QGraph) (grown : Grown R G fs H) (grown' : Grown R G gs K)
    (f g : Firing) (P Q : QGraph) (fa : DoneAt R G fs f P) (ga : DoneAt R G gs g Q) (same : SameFiring R G fs gs H K f g)
    (ra : SameNode R G fs gs H K (start_of P.arcs f.path) (start_of Q.arcs g.path)) (rb : SameNode R G fs gs H K (end_of P.arcs f.path) (end_of Q.arcs g.path)) where
  before : IsWithin G P
  before = (stands R G fs H f P grown fa).before

  before' : IsWithin G Q
  before' = (stands R G gs K g Q grown' ga).before

  within : IsWithin P H
  within = within_trans (within_adds R P f) (stands R G fs H f P grown fa).after

  within' : IsWithin Q K
  within' = within_trans (within_adds R Q g) (stands R G gs K g Q grown' ga).after

  -- where both add, place by place
  pub same_added : met R P f ≡ None → met R Q g ≡ None → (j : ℕ) → j < width R f → SameArc R G fs gs H K (length P.arcs + j) (length Q.arcs + j)
  same_added u u' j w = tested (all_unique R) refl
    where
      tested : (b : Bool) → all_unique R ≡ b → SameArc R G fs gs H K (length P.arcs + j) (length Q.arcs + j)
      tested false e = of_firing e f g P Q j fa ga same.rule same.values same.path w refl refl
      tested true e =
          let b : built R f ≡ built R g = built_same R f g same.rule same.values in
          let (x, at, is) = added_at R G fs H grown f P fa u j w in
          let (y, at', is') = added_at R G gs K grown' g Q ga u' j (omega (arith, ap length b)) in
          let (other, is'', from, to, tree) = chain_related (SameNode R G fs gs H K) (start_of P.arcs f.path) (start_of Q.arcs g.path) (built R f) (P.nodes + 1) (Q.nodes + 1) (end_of P.arcs f.path) (end_of Q.arcs g.path) ra rb
          (λ i h. node_of_firing f g P Q (i + 1) fa ga same.rule same.values same.path (omega arith) (omega arith) (omega arith) (omega arith)) j x is in
          let d : Some other ≡ Some y = sym is'' ∙ ap (λ ts. slice_get (chain (start_of Q.arcs g.path) ts (Q.nodes + 1) (end_of Q.arcs g.path)) j) b ∙ is' in
          of_ends e x other at (at' ∙ sym d) (omega (arith, within_length before)) (omega (arith, within_length before')) from to tree

  -- where the one adds and the other meets
  pub same_met : met R P f ≡ None → (l : ℕ) → met R Q g ≡ Some l → SamePath R G fs gs H K (from_on (length P.arcs) (width R f)) (l ∷ [])
  same_met u l e =
      let x = meeting R Q g l e in
      let b : built R f ≡ x.tree ∷ [] = built_same R f g same.rule same.values ∙ x.one in
      let z : length P.arcs + 0 ≡ length P.arcs = omega arith in
      let (y, at, is) = added_at R G fs H grown f P fa u 0 (omega (arith, ap length b)) in
      let is' : Some (arc (start_of P.arcs f.path) (end_of P.arcs f.path) x.tree) ≡ Some y = ap (λ ts. slice_get (chain (start_of P.arcs f.path) ts (P.nodes + 1) (end_of P.arcs f.path)) 0) (sym b) ∙ is in
      let stands_at = least_is Q.arcs (start_of Q.arcs g.path) (end_of Q.arcs g.path) x.tree l x.least in
      subst (λ (ts : List Tree). SamePath R G fs gs H K (from_on (length P.arcs) (length ts)) (l ∷ [])) (sym b)
      (and_arc (of_ends x.unique (arc (start_of P.arcs f.path) (end_of P.arcs f.path) x.tree) (arc (start_of Q.arcs g.path) (end_of Q.arcs g.path) x.tree)
      (ap (slice_get H.arcs) (sym z) ∙ at ∙ sym is') (arc_stays within' l (arc (start_of Q.arcs g.path) (end_of Q.arcs g.path) x.tree) stands_at)
      (within_length before) (⊎_elim (λ low. absurd (old x b stands_at low)) (λ high. high) (cases_lt l (length G.arcs)))
      ra rb refl) no_arc)
    where
      -- an arc of the start would have been met by the other too
      old : (x : Meeting R Q g l) → built R f ≡ x.tree ∷ [] → slice_get Q.arcs l ≡ Some (arc (start_of Q.arcs g.path) (end_of Q.arcs g.path) x.tree) → l < length G.arcs → ⊥
      old x b at low =
          let here = arc_back before' l (arc (start_of Q.arcs g.path) (end_of Q.arcs g.path) x.tree) low at in
          let (f_low, t_low) = ends (arc (start_of Q.arcs g.path) (end_of Q.arcs g.path) x.tree) (in_at G.arcs l (arc (start_of Q.arcs g.path) (end_of Q.arcs g.path) x.tree) here) in
          let p = node_is_start R G gs fs K H grown' (turned_node ra) f_low in
          let q = node_is_start R G gs fs K H grown' (turned_node rb) t_low in
          let d : arc (start_of Q.arcs g.path) (end_of Q.arcs g.path) x.tree ≡ arc (start_of P.arcs f.path) (end_of P.arcs f.path) x.tree = (λ i. record { from = p i; to = q i; tree = x.tree }) in
          let (m, s, h) = met_at R P f x.tree l x.unique b (arc_stays before l (arc (start_of P.arcs f.path) (end_of P.arcs f.path) x.tree) (here ∙ ap Some d)) in
          cc

  -- where both meet, and the one meets an arc of the start, the other meets none behind it
  pub low_met : (k : ℕ) → met R P f ≡ Some k → (l : ℕ) → met R Q g ≡ Some l → k < length G.arcs → l ≤ k
  low_met k e l e' low =
      let x = meeting R P f k e in
      let y = meeting R Q g l e' in
      let b : x.tree ∷ [] ≡ y.tree ∷ [] = sym x.one ∙ built_same R f g same.rule same.values ∙ y.one in
      let t : x.tree ≡ y.tree = cc in
      let at = arc_back before k (arc (start_of P.arcs f.path) (end_of P.arcs f.path) x.tree) low (least_is P.arcs (start_of P.arcs f.path) (end_of P.arcs f.path) x.tree k x.least) in
      let (f_low, t_low) = ends (arc (start_of P.arcs f.path) (end_of P.arcs f.path) x.tree) (in_at G.arcs k (arc (start_of P.arcs f.path) (end_of P.arcs f.path) x.tree) at) in
      let p = node_is_start R G fs gs H K grown ra f_low in
      let q = node_is_start R G fs gs H K grown rb t_low in
      let d : arc (start_of P.arcs f.path) (end_of P.arcs f.path) x.tree ≡ arc (start_of Q.arcs g.path) (end_of Q.arcs g.path) y.tree = (λ i. record { from = p i; to = q i; tree = t i }) in
      least_low Q.arcs (start_of Q.arcs g.path) (end_of Q.arcs g.path) y.tree l k y.least (arc_stays before' k (arc (start_of Q.arcs g.path) (end_of Q.arcs g.path) y.tree) (at ∙ ap Some d))

module _ (R : List Rule) (G : QGraph) (ends : HasEnds G) (fs gs : List Firing) (H K : QGraph) (grown : Grown R G fs H) (grown' : Grown R G gs K)
    (f g : Firing) (P Q : QGraph) (fa : DoneAt R G fs f P) (ga : DoneAt R G gs g Q) (same : SameFiring R G fs gs H K f g)
    (ra : SameNode R G fs gs H K (start_of P.arcs f.path) (start_of Q.arcs g.path)) (rb : SameNode R G fs gs H K (end_of P.arcs f.path) (end_of Q.arcs g.path)) where
  both_met : (k : ℕ) → met R P f ≡ Some k → (l : ℕ) → met R Q g ≡ Some l → SameArc R G fs gs H K k l
  both_met k e l e' = ⊎_elim
      (λ low. let h = there low in of_start low (let h' = back (omega arith) in omega arith))
      (λ high. ⊎_elim (λ low. absurd (let h = back low in omega arith)) (new high) (cases_lt l (length G.arcs)))
      (cases_lt k (length G.arcs))
    where
      there : k < length G.arcs → l ≤ k
      there = low_met R G ends fs gs H K grown grown' f g P Q fa ga same ra rb k e l e'

      back : l < length G.arcs → k ≤ l
      back = low_met R G ends gs fs K H grown' grown g f Q P ga fa (turned_firing same) (turned_node ra) (turned_node rb) l e' k e

      new : length G.arcs ≤ k → length G.arcs ≤ l → SameArc R G fs gs H K k l
      new h h' =
          let x = meeting R P f k e in
          let y = meeting R Q g l e' in
          let b : x.tree ∷ [] ≡ y.tree ∷ [] = sym x.one ∙ built_same R f g same.rule same.values ∙ y.one in
          let t : x.tree ≡ y.tree = cc in
          of_ends x.unique (arc (start_of P.arcs f.path) (end_of P.arcs f.path) x.tree) (arc (start_of Q.arcs g.path) (end_of Q.arcs g.path) y.tree)
          (arc_stays (within R G ends fs gs H K grown grown' f g P Q fa ga same ra rb) k (arc (start_of P.arcs f.path) (end_of P.arcs f.path) x.tree) (least_is P.arcs (start_of P.arcs f.path) (end_of P.arcs f.path) x.tree k x.least))
          (arc_stays (within' R G ends fs gs H K grown grown' f g P Q fa ga same ra rb) l (arc (start_of Q.arcs g.path) (end_of Q.arcs g.path) y.tree) (least_is Q.arcs (start_of Q.arcs g.path) (end_of Q.arcs g.path) y.tree l y.least))
          h h' ra rb t

  -- the results are the same
  pub same_results_by : SamePath R G fs gs H K (result_arcs R P f) (result_arcs R Q g)
  same_results_by = tested (met R P f) refl (met R Q g) refl
    where
      b : built R f ≡ built R g
      b = built_same R f g same.rule same.values

      tested : (o : Option ℕ) → met R P f ≡ o → (p : Option ℕ) → met R Q g ≡ p → SamePath R G fs gs H K (result_arcs R P f) (result_arcs R Q g)
      tested None e None e' =
          subst (λ o. SamePath R G fs gs H K (result_by o (length P.arcs) (width R f)) (result_arcs R Q g)) (sym e)
          (subst (λ o. SamePath R G fs gs H K (from_on (length P.arcs) (width R f)) (result_by o (length Q.arcs) (width R g))) (sym e')
          (subst (λ (ts : List Tree). SamePath R G fs gs H K (from_on (length P.arcs) (width R f)) (from_on (length Q.arcs) (length ts))) b
          (same_from_on R G fs gs H K (width R f) (length P.arcs) (length Q.arcs) (same_added R G ends fs gs H K grown grown' f g P Q fa ga same ra rb e e'))))
      tested None e (Some l) e' =
          subst (λ o. SamePath R G fs gs H K (result_by o (length P.arcs) (width R f)) (result_arcs R Q g)) (sym e)
          (subst (λ o. SamePath R G fs gs H K (from_on (length P.arcs) (width R f)) (result_by o (length Q.arcs) (width R g))) (sym e')
          (same_met R G ends fs gs H K grown grown' f g P Q fa ga same ra rb e l e'))
      tested (Some k) e None e' =
          subst (λ o. SamePath R G fs gs H K (result_by o (length P.arcs) (width R f)) (result_arcs R Q g)) (sym e)
          (subst (λ o. SamePath R G fs gs H K (k ∷ []) (result_by o (length Q.arcs) (width R g))) (sym e')
          (turned_path (same_met R G ends gs fs K H grown' grown g f Q P ga fa (turned_firing same) (turned_node ra) (turned_node rb) e' k e)))
      tested (Some k) e (Some l) e' =
          subst (λ o. SamePath R G fs gs H K (result_by o (length P.arcs) (width R f)) (result_arcs R Q g)) (sym e)
          (subst (λ o. SamePath R G fs gs H K (k ∷ []) (result_by o (length Q.arcs) (width R g))) (sym e')
          (and_arc (both_met k e l e') no_arc))
