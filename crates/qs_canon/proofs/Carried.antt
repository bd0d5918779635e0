-- A graph that grew is carried into one, from the same start, in which all firings are done.
use Rattle.std.proofs.Common.{◌≡◌, ℕ, zero, suc, ◌+◌, ◌<◌, ◌≤◌, true, false, List, [], ◌∷◌, length, refl, sym, ◌∙◌, ap, subst, ⊎_elim, arith, Some, slice_get}
use Rattle.std.proofs.lemmas.Option.{slice_get_within}
use Rattle.qs_tree.specs.Lists.{◌∈◌}
use Rattle.qs_tree.proofs.Members.{in_at}
use Rattle.qs_pattern.specs.Instances.{IsMatch}
use Rattle.qs_pattern.specs.Rules.{Rule, all_unique}
use Rattle.qs_graph.specs.Graphs.{Arc, QGraph, Leads, IsPath, trees_on}
use Rattle.qs_graph.specs.Chains.{chain}
use Rattle.qs_firing.specs.Firings.{Firing, Fires}
use Rattle.qs_firing.specs.Adding.{built, start_of, end_of, from_on, result_by, result_arcs}
use Rattle.qs_firing.proofs.Merging.{not_unique}
use Rattle.qs_firing.proofs.Within.{IsWithin, arc_stays, leads_stays, within_trans, within_length, within_adds, fires_stays, trees_from}
use Rattle.qs_core.specs.Growth.{Grown, DoneAt, AllApart, NoTwins}
use Rattle.qs_core.proofs.Growth.{start_is, end_is, grown_within}
use Rattle.qs_core.proofs.Twins.{HasEnds, no_twins}
use Rattle.qs_canon.specs.working.Same.{width, SameArc, SamePath, SameFiring, SameNode, of_start, of_firing, of_ends, no_arc, and_arc, node_of_start, node_of_firing}
use Rattle.qs_canon.proofs.Histories.{stands, arc_origin, ArcOrigin, node_origin, NodeOrigin, at_of}
use Rattle.qs_canon.proofs.Same.{one_node, built_same}
use Rattle.qs_canon.proofs.Results.{arc_back, chain_related, added_at, of_path, same_results_by}
use Rattle.qs_canon.proofs.Counting.{from_in}

-- the trees of a path are that of its first arc and those of the rest
-- a path has the ends that it had
same_ends : {P H : QGraph} → IsWithin P H → (path : List ℕ) → {x y a b : ℕ} → IsPath P.arcs x path y → IsPath H.arcs a path b → (start_of P.arcs path ≡ a) × (end_of P.arcs path ≡ b)
same_ends {P} {H} w path {x = x} {y = y} {a = a} {b = b} p q =
    let r : IsPath H.arcs x path y = record { some = p.some; leads = leads_stays w x path y p.leads } in
    (start_is P.arcs x path y p ∙ sym (start_is H.arcs x path y r) ∙ start_is H.arcs a path b q, end_is P.arcs x path y p ∙ sym (end_is H.arcs x path y r) ∙ end_is H.arcs a path b q)

pub same_length : {R : List Rule} {G : QGraph} {fs gs : List Firing} {H K : QGraph} {ks ls : List ℕ} → SamePath R G fs gs H K ks ls → length ks ≡ length ls
same_length no_arc = refl
same_length (and_arc s t) = ap suc (same_length t)

module _ (R : List Rule) (G : QGraph) (ends : HasEnds G)
    (fs gs : List Firing) (H K : QGraph) (grown : Grown R G fs H) (grown' : Grown R G gs K) (once : AllApart gs) where
  -- the arc l of K is arc up to numbering
  pub record CarriedArc (arc : Arc) (l : ℕ) : Type 0 where
    pub other : Arc
    pub is : slice_get K.arcs l ≡ Some other
    pub from : SameNode R G fs gs H K arc.from other.from
    pub to : SameNode R G fs gs H K arc.to other.to
    pub tree : arc.tree ≡ other.tree

  pub record CarriedPath (ks : List ℕ) (a' : ℕ) (ls : List ℕ) (b : ℕ) : Type 0 where
    pub end : ℕ
    pub leads : Leads K.arcs a' ls end
    pub same : SameNode R G fs gs H K b end
    pub trees : trees_on H.arcs ks ≡ trees_on K.arcs ls

  start_arc : (k l : ℕ) → k < length G.arcs → k ≡ l → (arc : Arc) → slice_get H.arcs k ≡ Some arc → CarriedArc arc l
  start_arc k l low e arc is =
      let i : slice_get G.arcs k ≡ Some arc = arc_back (grown_within R G fs H grown) k arc low is in
      let (f, t) = ends arc (in_at G.arcs k arc i) in
      record { other = arc; is = ap (λ x. slice_get K.arcs x) (sym e) ∙ arc_stays (grown_within R G gs K grown') k arc i; from = node_of_start f refl; to = node_of_start t refl; tree = refl }

  -- where the rules are all unique, K has no equal arcs but the start's
  twins : all_unique R ≡ true → NoTwins G K
  twins u = no_twins R G ends u gs K grown'

  -- the ends of what two firings build that are the same
  ends_by : (f g : Firing) (P Q : QGraph) → DoneAt R G fs f P → DoneAt R G gs g Q → (a a' b b' : ℕ) → IsPath H.arcs a f.path b → IsPath K.arcs a' g.path b' → SameNode R G fs gs H K a a' → SameNode R G fs gs H K b b'
      → SameNode R G fs gs H K (start_of P.arcs f.path) (start_of Q.arcs g.path) × SameNode R G fs gs H K (end_of P.arcs f.path) (end_of Q.arcs g.path)
  ends_by f g P Q fa ga a a' b b' p p' sa sb =
      let s = stands R G fs H f P grown fa in
      let t = stands R G gs K g Q grown' ga in
      let (ea, eb) = same_ends (within_trans (within_adds R P f) s.after) f.path s.fires.path p in
      let (ea', eb') = same_ends (within_trans (within_adds R Q g) t.after) g.path t.fires.path p' in (
        subst (λ x. SameNode R G fs gs H K x (start_of Q.arcs g.path)) (sym ea) (subst (λ x. SameNode R G fs gs H K a x) (sym ea') sa),
        subst (λ x. SameNode R G fs gs H K x (end_of Q.arcs g.path)) (sym eb) (subst (λ x. SameNode R G fs gs H K b x) (sym eb') sb),
      )

  -- one place of what two firings added that are the same, where the rules aren't unique
  added_arc : all_unique R ≡ false → (f g : Firing) (P Q : QGraph) (j : ℕ) → DoneAt R G fs f P → DoneAt R G gs g Q → SameFiring R G fs gs H K f g → j < width R f
      → SameNode R G fs gs H K (start_of P.arcs f.path) (start_of Q.arcs g.path) → SameNode R G fs gs H K (end_of P.arcs f.path) (end_of Q.arcs g.path)
      → (k l : ℕ) → k ≡ length P.arcs + j → l ≡ length Q.arcs + j → (arc : Arc) → slice_get H.arcs k ≡ Some arc → CarriedArc arc l
  added_arc u f g P Q j fa ga same w ra rb k l ke le arc is =
      let b = built_same R f g same.rule same.values in
      let (x, at, here) = added_at R G fs H grown f P fa (not_unique R P f u) j w in
      let (y, at', here') = added_at R G gs K grown' g Q ga (not_unique R Q g u) j (omega (arith, ap length b)) in
      let e : Some x ≡ Some arc = sym at ∙ ap (slice_get H.arcs) (sym ke) ∙ is in
      let (other, here'', from, to, tree) = chain_related (SameNode R G fs gs H K) (start_of P.arcs f.path) (start_of Q.arcs g.path) (built R f) (P.nodes + 1) (Q.nodes + 1) (end_of P.arcs f.path) (end_of Q.arcs g.path) ra rb
      (λ i h. node_of_firing f g P Q (i + 1) fa ga same.rule same.values same.path (omega arith) (omega arith) (omega arith) (omega arith)) j arc (here ∙ e) in
      let d : Some other ≡ Some y = sym here'' ∙ ap (λ ts. slice_get (chain (start_of Q.arcs g.path) ts (Q.nodes + 1) (end_of Q.arcs g.path)) j) b ∙ here' in
      record { other = other; is = ap (slice_get K.arcs) le ∙ at' ∙ sym d; from = from; to = to; tree = tree }

  mutual
    pub carried_arc : {k l : ℕ} → SameArc R G fs gs H K k l → (arc : Arc) → slice_get H.arcs k ≡ Some arc → CarriedArc arc l
    carried_arc {k = k} {l = l} (of_start low e) arc is = start_arc k l low e arc is
    carried_arc {k = k} {l = l} (of_firing u f g P Q j fa ga r v p w ke le) arc is =
        let s = stands R G fs H f P grown fa in
        let leads : Leads H.arcs s.fires.from f.path s.fires.to = leads_stays (within_trans (within_adds R P f) s.after) s.fires.from f.path s.fires.to s.fires.path.leads in
        let (a', sa) = carried_start p s.fires.from s.fires.to s.fires.path.some leads in
        let c = carried_path p s.fires.from a' s.fires.to sa leads in
        let (ra, rb) = ends_by f g P Q fa ga s.fires.from a' s.fires.to c.end (record { some = s.fires.path.some; leads = leads }) (record { some = omega (arith, same_length p, s.fires.path.some); leads = c.leads }) sa c.same in
        added_arc u f g P Q j fa ga (record { rule = r; values = v; path = p }) w ra rb k l ke le arc is
    carried_arc (of_ends u a b ai bi kn ln f t tr) arc is =
        let d : Some a ≡ Some arc = sym ai ∙ is in
        let e : a ≡ arc = cc in
        record {
          other = b;
          is = bi;
          from = subst (λ (x : Arc). SameNode R G fs gs H K x.from b.from) e f;
          to = subst (λ (x : Arc). SameNode R G fs gs H K x.to b.to) e t;
          tree = ap (λ (x : Arc). x.tree) (sym e) ∙ tr;
        }

    pub carried_start : {ks ls : List ℕ} → SamePath R G fs gs H K ks ls → (a b : ℕ) → 0 < length ks → Leads H.arcs a ks b → (a' : ℕ) × SameNode R G fs gs H K a a'
    carried_start no_arc a b h l = absurd (omega arith)
    carried_start (and_arc s t) a b h (arc, is, e, l) = let c = carried_arc s arc is in (c.other.from, subst (λ x. SameNode R G fs gs H K x c.other.from) e c.from)

    pub carried_path : {ks ls : List ℕ} → SamePath R G fs gs H K ks ls → (a a' b : ℕ) → SameNode R G fs gs H K a a' → Leads H.arcs a ks b → CarriedPath ks a' ls b
    carried_path no_arc a a' b s l = record { end = a'; leads = refl; same = subst (λ x. SameNode R G fs gs H K x a') l s; trees = refl }
    carried_path (and_arc {k = k} {l = m} {ks = ks} {ls = ls} s t) a a' b n (arc, is, e, l) =
        let c = carried_arc s arc is in
        let r = carried_path t arc.to c.other.to b c.to l in
        record {
          end = r.end;
          leads = (c.other, c.is, one_node R G fs gs H K grown once twins c.from (subst (λ x. SameNode R G fs gs H K x a') (sym e) n), r.leads);
          same = r.same;
          trees = trees_from H.arcs k ks arc is ∙ (λ i. c.tree i ∷ r.trees i) ∙ sym (trees_from K.arcs m ls c.other c.is);
        }

  -- a firing over H, with its path carried, fires over K
  pub carried_fires : (f : Firing) → Fires R H.arcs f → (ls : List ℕ) → SamePath R G fs gs H K f.path ls → Fires R K.arcs (record { rule = f.rule; path = ls; values = f.values })
  carried_fires f r ls s =
      let (a', sa) = carried_start s r.from r.to r.path.some r.path.leads in
      let c = carried_path s r.from a' r.to sa r.path.leads in
      record {
        rule = r.rule;
        is_rule = r.is_rule;
        from = a';
        to = c.end;
        path = record { some = omega (arith, same_length s, r.path.some); leads = c.leads };
        long = sym (same_length s) ∙ r.long;
        matches = subst (λ ts. IsMatch r.rule.left ts f.values) c.trees r.matches;
        holds = r.holds;
      }

  -- a path over arcs that are carried is carried
  carried : (P : QGraph) → ((k : ℕ) → k < length P.arcs → (l : ℕ) × SameArc R G fs gs H K k l) → (a : ℕ) (ks : List ℕ) (b : ℕ) → Leads P.arcs a ks b → (ls : List ℕ) × SamePath R G fs gs H K ks ls
  carried P all a [] b l = ([], no_arc)
  carried P all a (k ∷ ks) b (arc, is, e, l) =
      let (m, s) = all k (slice_get_within P.arcs k arc is) in
      let (ms, t) = carried P all arc.to ks b l in
      (m ∷ ms, and_arc s t)

  -- the firing done over K that a firing over H is
  pub record Partner (f : Firing) : Type 0 where
    pub other : Firing
    pub to : QGraph
    pub at : DoneAt R G gs other to
    pub same : SameFiring R G fs gs H K f other

  -- the ends of what firings build that are the same are the same, and so are their results, in order
  pub same_results : (f g : Firing) (P Q : QGraph) → DoneAt R G fs f P → DoneAt R G gs g Q → SameFiring R G fs gs H K f g → SamePath R G fs gs H K (result_arcs R P f) (result_arcs R Q g)
  same_results f g P Q fa ga same =
      let s = stands R G fs H f P grown fa in
      let leads : Leads H.arcs s.fires.from f.path s.fires.to = leads_stays (within_trans (within_adds R P f) s.after) s.fires.from f.path s.fires.to s.fires.path.leads in
      let (a', sa) = carried_start same.path s.fires.from s.fires.to s.fires.path.some leads in
      let c = carried_path same.path s.fires.from a' s.fires.to sa leads in
      let (ra, rb) = ends_by f g P Q fa ga s.fires.from a' s.fires.to c.end (record { some = s.fires.path.some; leads = leads }) (record { some = omega (arith, same_length same.path, s.fires.path.some); leads = c.leads }) sa c.same in
      same_results_by R G ends fs gs H K grown grown' f g P Q fa ga same ra rb

  -- so an arc that a firing with a partner added is an arc of K
  arc_from : (k : ℕ) → (o : ArcOrigin R G fs k) → Partner o.by → (l : ℕ) × SameArc R G fs gs H K k l
  arc_from k o p =
      let e : result_arcs R o.to o.by ≡ from_on (length o.to.arcs) (width R o.by) = ap (λ x. result_by x (length o.to.arcs) (width R o.by)) o.unmet in
      of_path R G fs gs H K (same_results o.by p.other o.to p.to o.at p.at p.same) k
      (subst (λ ks. k ∈ ks) (sym e) (subst (λ n. n ∈ from_on (length o.to.arcs) (width R o.by)) (sym o.is) (from_in (length o.to.arcs) (width R o.by) o.place o.within)))

  module _ (partners : (f : Firing) (P : QGraph) → DoneAt R G fs f P → Partner f) where
    -- each arc of H is an arc of K
    pub all_arcs : (k : ℕ) → k < length H.arcs → (l : ℕ) × SameArc R G fs gs H K k l
    all_arcs k h = ⊎_elim (λ low. (k, of_start low refl)) (λ o. arc_from k o (partners o.by o.to o.at)) (arc_origin R G fs H k grown h)

    -- each node of H is a node of K
    pub all_nodes : (n : ℕ) → n ≤ H.nodes → (m : ℕ) × SameNode R G fs gs H K n m
    all_nodes n h = ⊎_elim (λ low. (n, node_of_start low refl)) added (node_origin R G fs H n grown h)
      where
        added : NodeOrigin R G fs n → (m : ℕ) × SameNode R G fs gs H K n m
        added o = let p = partners o.by o.to o.at in (p.to.nodes + o.place, node_of_firing o.by p.other o.to p.to o.place o.at p.at p.same.rule p.same.values p.same.path o.some o.within o.is refl)

  -- a firing over an earlier graph P whose arcs are carried is a firing over K
  pub record Image (f : Firing) : Type 0 where
    pub path : List ℕ
    pub same : SamePath R G fs gs H K f.path path
    pub fires : Fires R K.arcs (record { rule = f.rule; path = path; values = f.values })

  pub image_over : (f : Firing) (P : QGraph) → IsWithin P H → Fires R P.arcs f → ((k : ℕ) → k < length P.arcs → (l : ℕ) × SameArc R G fs gs H K k l) → Image f
  image_over f P w r all =
      let (ls, s) = carried P all r.from f.path r.to r.path.leads in
      record { path = ls; same = s; fires = carried_fires f (fires_stays R w r) ls s }

  -- where all firings over K are done, each firing over H has its partner
  module _ (closed : (f : Firing) → Fires R K.arcs f → f ∈ gs) where
    partner_over : (f : Firing) (P : QGraph) → IsWithin P H → Fires R P.arcs f → ((k : ℕ) → k < length P.arcs → (l : ℕ) × SameArc R G fs gs H K k l) → Partner f
    partner_over f P w r all =
        let x = image_over f P w r all in
        let (Q, at) = at_of R G gs (record { rule = f.rule; path = x.path; values = f.values }) (closed (record { rule = f.rule; path = x.path; values = f.values }) x.fires) in
        record { other = record { rule = f.rule; path = x.path; values = f.values }; to = Q; at = at; same = record { rule = refl; values = refl; path = x.same } }

    below : (m k : ℕ) → k < m → k < length H.arcs → (l : ℕ) × SameArc R G fs gs H K k l
    below zero k lt h = absurd (omega arith)
    below (suc m) k lt h = ⊎_elim (λ low. (k, of_start low refl)) (added (λ i e. below m i e)) (arc_origin R G fs H k grown h)
      where
        added : ((i : ℕ) → i < m → i < length H.arcs → (l : ℕ) × SameArc R G fs gs H K i l) → ArcOrigin R G fs k → (l : ℕ) × SameArc R G fs gs H K k l
        added all o =
            let s = stands R G fs H o.by o.to grown o.at in
            let w = within_trans (within_adds R o.to o.by) s.after in
            arc_from k o (partner_over o.by o.to w s.fires (λ i e. all i (omega (arith, o.is)) (omega (arith, within_length w))))

    pub closed_partners : (f : Firing) (P : QGraph) → DoneAt R G fs f P → Partner f
    closed_partners f P at =
        let s = stands R G fs H f P grown at in
        let w = within_trans (within_adds R P f) s.after in
        partner_over f P w s.fires (λ i e. below (suc i) i (omega arith) (omega (arith, within_length w)))
