-- A graph that grew is carried into one from the same start in which its firings are done too; two graphs over which all
-- firings are done are the same up to numbering.
use Rattle.std.proofs.Common.{◌≡◌, ℕ, ◌<◌, ◌≤◌, true, List, length, map, refl, sym, ◌∙◌, ap, subst, inl, inr, ◌⊎◌, arith, Some}
use Rattle.std.proofs.lemmas.Option.{slice_get_within}
use Rattle.std.proofs.lemmas.Bool.{cases_lt}
use Rattle.qs_tree.specs.Lists.{◌∈◌}
use Rattle.qs_pattern.specs.Rules.{Rule, all_unique}
use Rattle.qs_graph.specs.Graphs.{QGraph}
use Rattle.qs_firing.specs.Firings.{Firing, Fires}
use Rattle.qs_firing.proofs.Within.{within_length, length-adds}
use Rattle.qs_core.specs.Growth.{Grown, DoneAt, AllApart, NoTwins}
use Rattle.qs_core.proofs.Growth.{grown_within}
use Rattle.qs_core.proofs.Twins.{HasEnds, no_twins}
use Rattle.qs_canon.specs.Carrying.{image, IsCarried, AreSame}
use Rattle.qs_canon.specs.working.Same.{SameArc, SamePath, SameFiring, SameNode, of_start, of_firing, of_ends, no_arc, and_arc, node_of_start, node_of_firing}
use Rattle.qs_canon.proofs.Histories.{stands, at_of, in_of}
use Rattle.qs_canon.proofs.Same.{adds_all, adds_many, one_arc, one_node, one_firing, turned_arc, turned_firing, turned_node}
use Rattle.qs_canon.proofs.Carried as carrying
use Rattle.qs_canon.proofs.Counting as counting

-- a same arc and a same node are in range
pub arc_low : (R : List Rule) (G : QGraph) (fs gs : List Firing) (H K : QGraph) → Grown R G fs H → {k l : ℕ} → SameArc R G fs gs H K k l → k < length H.arcs
arc_low R G fs gs H K grown (of_start low e) = omega (arith, within_length (grown_within R G fs H grown))
arc_low R G fs gs H K grown (of_firing u f g P Q j fa ga r v p w ke le) = omega (arith, length-adds R P f, adds_all R P f u, within_length (stands R G fs H f P grown fa).after)
arc_low R G fs gs H K grown {k = k} (of_ends u a b ai bi kn ln f t tr) = slice_get_within H.arcs k a ai

pub node_low : (R : List Rule) (G : QGraph) (fs gs : List Firing) (H K : QGraph) → Grown R G fs H → {n m : ℕ} → SameNode R G fs gs H K n m → n ≤ H.nodes
node_low R G fs gs H K grown (node_of_start low e) = omega (arith, (grown_within R G fs H grown).nodes)
node_low R G fs gs H K grown (node_of_firing f g P Q i fa ga r v p some w ne me) = omega (arith, adds_many R P f i some w, (stands R G fs H f P grown fa).after.nodes)

node_some : (R : List Rule) (G : QGraph) (fs gs : List Firing) (H K : QGraph) {n m : ℕ} → SameNode R G fs gs H K n m → 1 ≤ n → 1 ≤ m
node_some R G fs gs H K (node_of_start low e) h = omega arith
node_some R G fs gs H K (node_of_firing f g P Q i fa ga r v p some w ne me) h = omega arith

module _ (R : List Rule) (G : QGraph) (ends : HasEnds G)
    (fs gs : List Firing) (H K : QGraph) (grown : Grown R G fs H) (grown' : Grown R G gs K) (once : AllApart fs) (once' : AllApart gs)
    (partners : (f : Firing) (P : QGraph) → DoneAt R G fs f P → carrying.Partner R G ends fs gs H K grown grown' once' f) where
  twins : all_unique R ≡ true → NoTwins G K
  twins u = no_twins R G ends u gs K grown'

  twins' : all_unique R ≡ true → NoTwins G H
  twins' u = no_twins R G ends u fs H grown

  abbrev arc_of : (k : ℕ) → (k < length H.arcs) ⊎ (length H.arcs ≤ k) → ℕ
  arc_of k (inl h) = (carrying.all_arcs R G ends fs gs H K grown grown' once' partners k h).0
  arc_of k (inr h) = 0

  abbrev node_of : (n : ℕ) → (H.nodes < n) ⊎ (n ≤ H.nodes) → ℕ
  node_of n (inl h) = 0
  node_of n (inr h) = (carrying.all_nodes R G ends fs gs H K grown grown' once' partners n h).0

  abbrev pub arcs : ℕ → ℕ
  arcs k = arc_of k (cases_lt k (length H.arcs))

  abbrev pub nodes : ℕ → ℕ
  nodes n = node_of n (cases_lt H.nodes n)

  pub arc_same : (k : ℕ) → k < length H.arcs → SameArc R G fs gs H K k (arcs k)
  arc_same k h = at (cases_lt k (length H.arcs))
    where
      at : (o : (k < length H.arcs) ⊎ (length H.arcs ≤ k)) → SameArc R G fs gs H K k (arc_of k o)
      at (inl l) = (carrying.all_arcs R G ends fs gs H K grown grown' once' partners k l).1
      at (inr l) = absurd (omega arith)

  pub node_same : (n : ℕ) → n ≤ H.nodes → SameNode R G fs gs H K n (nodes n)
  node_same n h = at (cases_lt H.nodes n)
    where
      at : (o : (H.nodes < n) ⊎ (n ≤ H.nodes)) → SameNode R G fs gs H K n (node_of n o)
      at (inl l) = absurd (omega arith)
      at (inr l) = (carrying.all_nodes R G ends fs gs H K grown grown' once' partners n l).1

  arc_is : {k l : ℕ} → SameArc R G fs gs H K k l → arcs k ≡ l
  arc_is {k = k} s = one_arc R G fs gs H K grown once' twins (arc_same k (arc_low R G fs gs H K grown s)) s

  node_is : {n m : ℕ} → SameNode R G fs gs H K n m → nodes n ≡ m
  node_is {n = n} s = one_node R G fs gs H K grown once' twins (node_same n (node_low R G fs gs H K grown s)) s

  path_is : {ks ls : List ℕ} → SamePath R G fs gs H K ks ls → map arcs ks ≡ ls
  path_is no_arc = refl
  path_is (and_arc {k = k} {l = l} {ks = ks} {ls = ls} s t) = let e : arcs k ≡ l = arc_is s in let d : map arcs ks ≡ ls = path_is t in cc

  firing_is : {f g : Firing} → SameFiring R G fs gs H K f g → image arcs f ≡ g
  firing_is s = λ i. record { rule = s.rule i; path = path_is s.path i; values = s.values i }

  partner_of : (f : Firing) → f ∈ fs → carrying.Partner R G ends fs gs H K grown grown' once' f
  partner_of f i = let (P, at) = at_of R G fs f i in partners f P at

  one_back : (f f' g : Firing) → SameFiring R G fs gs H K f g → SameFiring R G fs gs H K f' g → f ≡ f'
  one_back f f' g s t = one_firing R G gs fs K H grown' once twins' (turned_firing s) (turned_firing t)

  pub is_carried : IsCarried R G fs H gs K arcs nodes
  is_carried = record {
    arcs_in = λ k h. arc_low R G gs fs K H grown' (turned_arc (arc_same k h));
    arcs_apart = λ k l h j e. one_arc R G gs fs K H grown' once twins' (turned_arc (arc_same k h)) (subst (λ x. SameArc R G gs fs K H x l) (sym e) (turned_arc (arc_same l j)));
    arcs_start = λ k h. arc_is (of_start h refl);
    nodes_in = λ n h. let s = node_same n h.1 in (node_some R G fs gs H K s h.0, node_low R G gs fs K H grown' (turned_node s));
    nodes_apart = λ n m h j e. one_node R G gs fs K H grown' once twins' (turned_node (node_same n h.1)) (subst (λ x. SameNode R G gs fs K H x m) (sym e) (turned_node (node_same m j.1)));
    nodes_start = λ n h. node_is (node_of_start h.1 refl);
    arc = λ k arc is.
        let s = arc_same k (slice_get_within H.arcs k arc is) in
        let a = carrying.carried_arc R G ends fs gs H K grown grown' once' s arc is in
        let e : a.other ≡ record { from = nodes arc.from; to = nodes arc.to; tree = arc.tree } = (λ i. record { from = sym (node_is a.from) i; to = sym (node_is a.to) i; tree = sym a.tree i }) in
        a.is ∙ ap Some e;
    firing = λ f i. let p = partner_of f i in subst (λ x. x ∈ gs) (sym (firing_is p.same)) (in_of R G gs p.other p.to p.at);
    firing_apart = λ f g i j e.
        let p = partner_of f i in
        let q = partner_of g j in
        let same : p.other ≡ q.other = sym (firing_is p.same) ∙ e ∙ firing_is q.same in
        one_back f g q.other (subst (λ x. SameFiring R G fs gs H K f x) same p.same) q.same;
    results = λ f P Q fa ga.
        let p = partner_of f (in_of R G fs f P fa) in
        let s : SameFiring R G fs gs H K f (image arcs f) = subst (λ x. SameFiring R G fs gs H K f x) (sym (firing_is p.same)) p.same in
        path_is (carrying.same_results R G ends fs gs H K grown grown' once' f (image arcs f) P Q fa ga s);
  }

  -- no more firings are done over H than over K
  pub no_more : length fs ≤ length gs
  no_more = counting.fewer (SameFiring R G fs gs H K) one_back fs gs once (λ f i. let p = partner_of f i in (p.other, in_of R G gs p.other p.to p.at, p.same))

-- where all firings are done over both
module _ (R : List Rule) (G : QGraph) (ends : HasEnds G)
    (fs gs : List Firing) (H K : QGraph) (grown : Grown R G fs H) (grown' : Grown R G gs K) (once : AllApart fs) (once' : AllApart gs)
    (closed : (f : Firing) → Fires R H.arcs f → f ∈ fs) (closed' : (f : Firing) → Fires R K.arcs f → f ∈ gs) where
  there : (f : Firing) (P : QGraph) → DoneAt R G fs f P → carrying.Partner R G ends fs gs H K grown grown' once' f
  there = carrying.closed_partners R G ends fs gs H K grown grown' once' closed'

  back : (f : Firing) (P : QGraph) → DoneAt R G gs f P → carrying.Partner R G ends gs fs K H grown' grown once f
  back = carrying.closed_partners R G ends gs fs K H grown' grown once closed

  -- and the maps take each arc and node to the one that is the same
  pub are_same_with : (A : AreSame R G fs H gs K) × ((k : ℕ) → k < length H.arcs → SameArc R G fs gs H K k (A.arcs k)) × ((n : ℕ) → n ≤ H.nodes → SameNode R G fs gs H K n (A.nodes n))
  are_same_with = (
    record {
      arcs = arcs R G ends fs gs H K grown grown' once once' there;
      nodes = nodes R G ends fs gs H K grown grown' once once' there;
      carried = is_carried R G ends fs gs H K grown grown' once once' there;
      arcs_onto = λ l h.
          let (k, s) = carrying.all_arcs R G ends gs fs K H grown' grown once back l h in
          (k, arc_low R G fs gs H K grown (turned_arc s), arc_is R G ends fs gs H K grown grown' once once' there (turned_arc s));
      nodes_onto = λ m h.
          let (n, s) = carrying.all_nodes R G ends gs fs K H grown' grown once back m h.1 in
          (n, (node_some R G gs fs K H s h.0, node_low R G fs gs H K grown (turned_node s)), node_is R G ends fs gs H K grown grown' once once' there (turned_node s));
      firings_onto = λ g i.
          let p = partner_of R G ends gs fs K H grown' grown once' once back g i in
          (p.other, in_of R G fs p.other p.to p.at, firing_is R G ends fs gs H K grown grown' once once' there (turned_firing p.same));
    },
    arc_same R G ends fs gs H K grown grown' once once' there,
    node_same R G ends fs gs H K grown grown' once once' there,
  )

  pub are_same : AreSame R G fs H gs K
  are_same = are_same_with.0
