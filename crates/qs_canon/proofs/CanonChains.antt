-- The arcs of a result get their numbers one by one.
use Rattle.std.proofs.Common.{◌≡◌, ℕ, zero, suc, ◌+◌, ◌<◌, ◌≤◌, ◌^◌, ◌⊎◌, inl, inr, true, false, List, [], ◌∷◌, ◌++◌, length, set, refl, sym, ap, ◌∙◌, subst, arith, append_assoc, length-append, eq-eqb, get_or-set_same, get_or-set_other, Option, Some, None, slice_get, unwrap_or}
use Rattle.std.specs.Prelude.{if◌then◌else◌, ◌==◌, is_some}
use Rattle.std.proofs.lemmas.Bool.{cases_eq, cases_lt, ne_eqb}
use Rattle.std.proofs.lemmas.List.{length-set}
use Rattle.std.proofs.lemmas.Option.{slice_get_within}
use Rattle.qs_tree.specs.Trees.{Tree}
use Rattle.qs_graph.specs.Graphs.{Arc, QGraph}
use Rattle.qs_graph.specs.Chains.{chain}
use Rattle.qs_firing.specs.Adding.{from_on}
use Rattle.qs_canon.specs.declared.numbers.Numbers.{Numbers}
use Rattle.qs_canon.specs.working.CanonTables.{Table, numbered}
use Rattle.qs_canon.specs.working.CanonNumbers.{table_of, renumbered}
use Rattle.qs_canon.specs.working.CanonChains.{IsTraced, Chain, trees_of, IsUnnumbered, IsChainAdded}
use Rattle.qs_canon.proofs.CanonNumbers.{table_within}

-- a table with one number more
pub table_set : (xs : List (Option ℕ)) (k l : ℕ) → k < length xs → (x : ℕ) → table_of (set xs k (Some l)) x ≡ (if x == k then Some l else table_of xs x)
table_set xs k l h x = cases (cases_eq x k)
  where
    cases : (x ≡ k) ⊎ (x ≡ k → ⊥) → table_of (set xs k (Some l)) x ≡ (if x == k then Some l else table_of xs x)
    cases (inl e) =
        subst (λ j. table_of (set xs k (Some l)) j ≡ Some l) (sym e) (get_or-set_same xs k (Some l) None h)
        ∙ sym (ap (λ b. if b then Some l else table_of xs x) (eq-eqb x k e))
    cases (inr n) =
        get_or-set_other xs k x (Some l) None n ∙ sym (ap (λ b. if b then Some l else table_of xs x) (ne_eqb x k n))

pub none_some : (o : Option ℕ) (l : ℕ) → o ≡ None → o ≡ Some l → ⊥
none_some o l e d = let f : None ≡ Some l = sym e ∙ d in absurd cc

-- one arc more of the closure
get_more : (xs : List ℕ) (x l : ℕ) → l < length xs → slice_get (xs ++ x ∷ []) l ≡ slice_get xs l
get_more [] x l h = absurd (omega arith)
get_more (y ∷ xs) x zero h = refl
get_more (y ∷ xs) x (suc l) h = get_more xs x l (omega (arith, h))

get_last : (xs : List ℕ) (x : ℕ) → slice_get (xs ++ x ∷ []) (length xs) ≡ Some x
get_last [] x = refl
get_last (y ∷ xs) x = get_last xs x

module _ (old new : Numbers) (k : ℕ) (within : k < length old.arcs.items) (fresh : table_of old.arcs.items k ≡ None)
    (arcs : new.arcs.items ≡ set old.arcs.items k (Some (length old.edges.items))) (origins : new.origins.items ≡ old.origins.items ++ k ∷ [])
    (edges : length new.edges.items ≡ length old.edges.items + 1) where
  pub traced_more : IsTraced old → IsTraced new
  traced_more t = record {
    each = let l = length-append old.origins.items (k ∷ []) in let o = ap (λ (xs : List ℕ). length xs) origins in let e = t.each in omega (arith, l, o, e, edges);
    origin = λ x l. (there x l (cases_eq x k), back x l (cases_lt l (length old.origins.items)));
  }
    where
      now : (x : ℕ) → table_of new.arcs.items x ≡ (if x == k then Some (length old.edges.items) else table_of old.arcs.items x)
      now x = ap (λ (xs : List (Option ℕ)). table_of xs x) arcs ∙ table_set old.arcs.items k (length old.edges.items) within x

      there : (x l : ℕ) → (x ≡ k) ⊎ (x ≡ k → ⊥) → table_of new.arcs.items x ≡ Some l → slice_get new.origins.items l ≡ Some x
      there x l (inl e) is =
          let d : Some (length old.edges.items) ≡ Some l = sym (ap (λ b. if b then Some (length old.edges.items) else table_of old.arcs.items x) (eq-eqb x k e)) ∙ sym (now x) ∙ is in
          let f : length old.edges.items ≡ l = cc in
          let g : length old.origins.items ≡ l = t.each ∙ f in
          ap (λ (xs : List ℕ). slice_get xs l) origins ∙ subst (λ m. slice_get (old.origins.items ++ k ∷ []) m ≡ Some k) g (get_last old.origins.items k) ∙ ap (λ (m : ℕ). Some m) (sym e)
      there x l (inr n) is =
          let d : table_of old.arcs.items x ≡ Some l = sym (ap (λ b. if b then Some (length old.edges.items) else table_of old.arcs.items x) (ne_eqb x k n)) ∙ sym (now x) ∙ is in
          let at = (t.origin x l).0 d in
          ap (λ (xs : List ℕ). slice_get xs l) origins ∙ get_more old.origins.items k l (slice_get_within old.origins.items l x at) ∙ at

      back : (x l : ℕ) → (l < length old.origins.items) ⊎ (length old.origins.items ≤ l) → slice_get new.origins.items l ≡ Some x → table_of new.arcs.items x ≡ Some l
      back x l (inl h) at =
          let was : slice_get old.origins.items l ≡ Some x = sym (get_more old.origins.items k l h) ∙ sym (ap (λ (xs : List ℕ). slice_get xs l) origins) ∙ at in
          let is = (t.origin x l).1 was in
          let other : x ≡ k → ⊥ = (λ e. none_some (table_of old.arcs.items x) l (ap (table_of old.arcs.items) e ∙ fresh) is) in
          now x ∙ ap (λ b. if b then Some (length old.edges.items) else table_of old.arcs.items x) (ne_eqb x k other) ∙ is
      back x l (inr h) at =
          let here : slice_get (old.origins.items ++ k ∷ []) l ≡ Some x = sym (ap (λ (xs : List ℕ). slice_get xs l) origins) ∙ at in
          let low = slice_get_within (old.origins.items ++ k ∷ []) l x here in
          let m : length old.origins.items ≡ l = (let a = length-append old.origins.items (k ∷ []) in omega (arith, a, low, h)) in
          let d : Some k ≡ Some x = sym (get_last old.origins.items k) ∙ subst (λ i. slice_get (old.origins.items ++ k ∷ []) i ≡ Some x) (sym m) here in
          let e : x ≡ k = (let f : k ≡ x = cc in sym f) in
          now x ∙ ap (λ b. if b then Some (length old.edges.items) else table_of old.arcs.items x) (eq-eqb x k e) ∙ ap (λ (i : ℕ). Some i) (sym t.each ∙ m)

-- what one arc adds, with these nodes
pub record IsArcAdded (k : ℕ) (edge : Arc) (old : Numbers) (nodes_now : List (Option ℕ)) (last_now : ℕ) (new : Numbers) : Type 0 where
  pub arcs : new.arcs.items ≡ set old.arcs.items k (Some (length old.edges.items))
  pub edges : new.edges.items ≡ old.edges.items ++ renumbered (table_of nodes_now) edge ∷ []
  pub origins : new.origins.items ≡ old.origins.items ++ k ∷ []
  pub nodes : new.nodes.items ≡ nodes_now
  pub last_node : new.last_node ≡ last_now
  pub placed : new.placed.items ≡ old.placed.items

edges_long : (old new : Numbers) (nodes : List (Option ℕ)) (edge : Arc) → new.edges.items ≡ old.edges.items ++ renumbered (table_of nodes) edge ∷ [] → length new.edges.items ≡ length old.edges.items + 1
edges_long old new nodes edge a = let l = length-append old.edges.items (renumbered (table_of nodes) edge ∷ []) in let e = ap (λ (xs : List Arc). length xs) a in omega (arith, l, e)

module _ (H : QGraph) (now : Numbers) (first : ℕ) (c : Chain) (x : IsUnnumbered H now first c) (edge : Arc) (at : slice_get H.arcs first ≡ Some edge) where
  pub arc_within : first < length now.arcs.items
  arc_within = let w = x.within in let e = x.arcs_each in omega (arith, w, e)

  -- the first arc of the chain
  first_edge : (arc : Arc) → slice_get (chain c.from (trees_of c) c.next c.to) 0 ≡ Some arc → edge ≡ arc
  first_edge arc is =
      let z : first + 0 ≡ first = omega arith in
      let e : Some edge ≡ Some arc = sym at ∙ ap (slice_get H.arcs) (sym z) ∙ x.stands 0 arc is in
      cc

  first_fresh : table_of now.arcs.items first ≡ None
  first_fresh = let z : first + 0 ≡ first = omega arith in subst (λ k. table_of now.arcs.items k ≡ None) z (x.new_arcs 0 (omega arith))

  pub is_last : c.others ≡ [] → edge ≡ record { from = c.from; to = c.to; tree = c.tree }
  is_last e = first_edge (record { from = c.from; to = c.to; tree = c.tree })
      (subst (λ (ts : List Tree). slice_get (chain c.from (c.tree ∷ ts) c.next c.to) 0 ≡ Some (record { from = c.from; to = c.to; tree = c.tree })) (sym e) refl)

  pub goes_on : (u : Tree) (ts : List Tree) → c.others ≡ u ∷ ts → edge ≡ record { from = c.from; to = c.next; tree = c.tree }
  goes_on u ts e = first_edge (record { from = c.from; to = c.next; tree = c.tree })
      (subst (λ (ts : List Tree). slice_get (chain c.from (c.tree ∷ ts) c.next c.to) 0 ≡ Some (record { from = c.from; to = c.next; tree = c.tree })) (sym e) refl)

  pub next_fresh : (u : Tree) (ts : List Tree) → c.others ≡ u ∷ ts → table_of now.nodes.items c.next ≡ None
  next_fresh u ts e =
      let z : c.next + 0 ≡ c.next = omega arith in
      let l = ap (λ (xs : List Tree). length xs) e in
      subst (λ k. table_of now.nodes.items k ≡ None) z (x.new_nodes 0 (omega (arith, l)))

  pub from_has : table_of now.nodes.items edge.from ≡ Some c.from_number
  from_has = cases c.others refl
    where
      cases : (ts : List Tree) → c.others ≡ ts → table_of now.nodes.items edge.from ≡ Some c.from_number
      cases [] e = ap (λ (a : Arc). table_of now.nodes.items a.from) (is_last e) ∙ x.from_is
      cases (u ∷ ts) e = ap (λ (a : Arc). table_of now.nodes.items a.from) (goes_on u ts e) ∙ x.from_is

  -- the node to which it leads is within the table
  pub to_within : edge.to < length now.nodes.items
  to_within = cases c.others refl
    where
      cases : (ts : List Tree) → c.others ≡ ts → edge.to < length now.nodes.items
      cases [] e = subst (λ (a : Arc). a.to < length now.nodes.items) (sym (is_last e)) (table_within now.nodes.items c.to c.to_number x.to_is)
      cases (u ∷ ts) e =
          let l = ap (λ (xs : List Tree). length xs) e in
          let w = x.nodes_within in
          subst (λ (a : Arc). a.to < length now.nodes.items) (sym (goes_on u ts e)) (omega (arith, l, w))

  -- where that node has a number, the arc is the last
  pub has_last : (l : ℕ) → table_of now.nodes.items edge.to ≡ Some l → (c.others ≡ []) × (table_of now.nodes.items edge.to ≡ Some c.to_number)
  has_last l is = cases c.others refl
    where
      cases : (ts : List Tree) → c.others ≡ ts → (c.others ≡ []) × (table_of now.nodes.items edge.to ≡ Some c.to_number)
      cases [] e = (e, ap (λ (a : Arc). table_of now.nodes.items a.to) (is_last e) ∙ x.to_is)
      cases (u ∷ ts) e = absurd (none_some (table_of now.nodes.items edge.to) l (ap (λ (a : Arc). table_of now.nodes.items a.to) (goes_on u ts e) ∙ next_fresh u ts e) is)

  -- where it has none, there is room for one more
  pub room : table_of now.nodes.items edge.to ≡ None → now.last_node + 1 < 2 ^ 32
  room fresh = cases c.others refl
    where
      cases : (ts : List Tree) → c.others ≡ ts → now.last_node + 1 < 2 ^ 32
      cases [] e = absurd (none_some (table_of now.nodes.items edge.to) c.to_number fresh (ap (λ (b : Arc). table_of now.nodes.items b.to) (is_last e) ∙ x.to_is))
      cases (u ∷ ts) e = let l = ap (λ (xs : List Tree). length xs) e in let f = x.nodes_fit in omega (arith, f, l)

  renumbered_as : (N : Table) (b d : ℕ) → N edge.from ≡ Some c.from_number → N b ≡ Some d → edge ≡ record { from = c.from; to = b; tree = c.tree }
      → renumbered N edge ≡ record { from = c.from_number; to = d; tree = c.tree }
  renumbered_as N b d f t e =
      let from : unwrap_or (N edge.from) 0 ≡ c.from_number = ap (λ (o : Option ℕ). unwrap_or o 0) f in
      let to : unwrap_or (N edge.to) 0 ≡ d = ap (λ (a : Arc). unwrap_or (N a.to) 0) e ∙ ap (λ (o : Option ℕ). unwrap_or o 0) t in
      let tree : edge.tree ≡ c.tree = ap (λ (a : Arc). a.tree) e in
      λ i. record { from = from i; to = to i; tree = tree i }

  pub added_last : (l : ℕ) → table_of now.nodes.items edge.to ≡ Some l → (new : Numbers) → IsArcAdded first edge now now.nodes.items now.last_node new → IsChainAdded first c now new
  added_last l is new a =
      let (none, to) = has_last l is in
      subst (λ (ts : List Tree). IsChainAdded first (record { from = c.from; from_number = c.from_number; to = c.to; to_number = c.to_number; tree = c.tree; others = ts; next = c.next }) now new) (sym none)
      (record {
        arcs = λ k. ap (λ (xs : List (Option ℕ)). table_of xs k) a.arcs ∙ table_set now.arcs.items first (length now.edges.items) arc_within k;
        nodes = λ n. ap (λ (xs : List (Option ℕ)). table_of xs n) a.nodes;
        edges = a.edges ∙ ap (λ (arc : Arc). now.edges.items ++ arc ∷ []) (renumbered_as (table_of now.nodes.items) c.to c.to_number from_has x.to_is (is_last none));
        last_node = a.last_node ∙ omega arith;
        placed = a.placed;
        arcs_each = ap (λ (xs : List (Option ℕ)). length xs) a.arcs ∙ length-set now.arcs.items first (Some (length now.edges.items));
        nodes_each = ap (λ (xs : List (Option ℕ)). length xs) a.nodes;
        traced = traced_more now new first arc_within first_fresh a.arcs a.origins (edges_long now new now.nodes.items edge a.edges);
      })

  -- its node with the next number
  module _ (fresh : table_of now.nodes.items edge.to ≡ None) (nodes : List (Option ℕ)) (m_nodes : nodes ≡ set now.nodes.items edge.to (Some (now.last_node + 1))) where
    pub end_named : table_of nodes edge.to ≡ Some (now.last_node + 1)
    end_named = ap (λ (xs : List (Option ℕ)). table_of xs edge.to) m_nodes ∙ get_or-set_same now.nodes.items edge.to (Some (now.last_node + 1)) None to_within

    pub start_named : table_of nodes edge.from ≡ Some c.from_number
    start_named =
        let other : edge.from ≡ edge.to → ⊥ = (λ d. none_some (table_of now.nodes.items edge.from) c.from_number (ap (table_of now.nodes.items) d ∙ fresh) from_has) in
        ap (λ (xs : List (Option ℕ)). table_of xs edge.from) m_nodes ∙ get_or-set_other now.nodes.items edge.to edge.from (Some (now.last_node + 1)) None other ∙ from_has

  -- else its node gets the next number, and the chain goes on from there
  module _ (new : Numbers) (fresh : table_of now.nodes.items edge.to ≡ None) (nodes : List (Option ℕ)) (m_nodes : nodes ≡ set now.nodes.items edge.to (Some (now.last_node + 1)))
      (a : IsArcAdded first edge now nodes (now.last_node + 1) new) where
    others_some : (u : Tree) × (ts : List Tree) × (c.others ≡ u ∷ ts)
    others_some = cases c.others refl
      where
        cases : (ts : List Tree) → c.others ≡ ts → (u : Tree) × (us : List Tree) × (c.others ≡ u ∷ us)
        cases [] e = absurd (none_some (table_of now.nodes.items edge.to) c.to_number fresh (ap (λ (b : Arc). table_of now.nodes.items b.to) (is_last e) ∙ x.to_is))
        cases (u ∷ us) e = (u, us, e)

    to_next : edge.to ≡ c.next
    to_next = let (u, ts, e) = others_some in ap (λ (b : Arc). b.to) (goes_on u ts e)

    nodes_now : (n : ℕ) → table_of new.nodes.items n ≡ (if n == c.next then Some (now.last_node + 1) else table_of now.nodes.items n)
    nodes_now n =
        ap (λ (xs : List (Option ℕ)). table_of xs n) (a.nodes ∙ m_nodes) ∙ table_set now.nodes.items edge.to (now.last_node + 1) to_within n
        ∙ ap (λ k. if n == k then Some (now.last_node + 1) else table_of now.nodes.items n) to_next

    node_kept : (n : ℕ) → (n ≡ c.next → ⊥) → table_of new.nodes.items n ≡ table_of now.nodes.items n
    node_kept n ne = nodes_now n ∙ ap (λ b. if b then Some (now.last_node + 1) else table_of now.nodes.items n) (ne_eqb n c.next ne)

    node_new : table_of new.nodes.items c.next ≡ Some (now.last_node + 1)
    node_new = nodes_now c.next ∙ ap (λ b. if b then Some (now.last_node + 1) else table_of now.nodes.items c.next) (eq-eqb c.next c.next refl)

    arcs_now : (k : ℕ) → table_of new.arcs.items k ≡ (if k == first then Some (length now.edges.items) else table_of now.arcs.items k)
    arcs_now k =
        ap (λ (xs : List (Option ℕ)). table_of xs k) a.arcs ∙ table_set now.arcs.items first (length now.edges.items) arc_within k

    edges_now : length new.edges.items ≡ length now.edges.items + 1
    edges_now = edges_long now new nodes edge a.edges

    pub chain_left : (d : Chain) × IsUnnumbered H new (first + 1) d × ((n : Numbers) → IsChainAdded (first + 1) d new n → IsChainAdded first c now n)
    chain_left =
        let (u, ts, e) = others_some in
        subst (λ (us : List Tree). (d : Chain) × IsUnnumbered H new (first + 1) d
        × ((n : Numbers) → IsChainAdded (first + 1) d new n → IsChainAdded first (record { from = c.from; from_number = c.from_number; to = c.to; to_number = c.to_number; tree = c.tree; others = us; next = c.next }) now n)) (sym e)
        (rest u ts e, left u ts e, added u ts e)
      where
        rest : (u : Tree) (ts : List Tree) → c.others ≡ u ∷ ts → Chain
        rest u ts e = record { from = c.next; from_number = now.last_node + 1; to = c.to; to_number = c.to_number; tree = u; others = ts; next = c.next + 1 }

        left : (u : Tree) (ts : List Tree) (e : c.others ≡ u ∷ ts) → IsUnnumbered H new (first + 1) (rest u ts e)
        left u ts e =
            let l = ap (λ (xs : List Tree). length xs) e in
            let is_new = next_fresh u ts e in
            record {
              within = let w = x.within in omega (arith, w, l);
              stands = λ j arc is.
                  let m : first + suc j ≡ first + 1 + j = omega arith in
                  subst (λ k. slice_get H.arcs k ≡ Some arc) m
                  (x.stands (suc j) arc (subst (λ (us : List Tree). slice_get (chain c.from (c.tree ∷ us) c.next c.to) (suc j) ≡ Some arc) (sym e) is));
              from_is = node_new;
              to_is = node_kept c.to (λ d. none_some (table_of now.nodes.items c.to) c.to_number (ap (table_of now.nodes.items) d ∙ is_new) x.to_is) ∙ x.to_is;
              new_nodes = λ j h.
                  let m : c.next + suc j ≡ c.next + 1 + j = omega arith in
                  node_kept (c.next + 1 + j) (λ d. absurd (omega (arith, d))) ∙ subst (λ k. table_of now.nodes.items k ≡ None) m (x.new_nodes (suc j) (omega (arith, h, l)));
              new_arcs = λ j h.
                  let m : first + suc j ≡ first + 1 + j = omega arith in
                  let other : first + 1 + j ≡ first → ⊥ = (λ d. absurd (omega (arith, d))) in
                  arcs_now (first + 1 + j) ∙ ap (λ b. if b then Some (length now.edges.items) else table_of now.arcs.items (first + 1 + j)) (ne_eqb (first + 1 + j) first other)
                  ∙ subst (λ k. table_of now.arcs.items k ≡ None) m (x.new_arcs (suc j) (omega (arith, h, l)));
              nodes_within =
                  let w = x.nodes_within in
                  let s = ap (λ (xs : List (Option ℕ)). length xs) (a.nodes ∙ m_nodes) ∙ length-set now.nodes.items edge.to (Some (now.last_node + 1)) in
                  omega (arith, w, s, l);
              arcs_each = ap (λ (xs : List (Option ℕ)). length xs) a.arcs ∙ length-set now.arcs.items first (Some (length now.edges.items)) ∙ x.arcs_each;
              arcs_fit = let f = x.arcs_fit in let n = edges_now in omega (arith, f, n, l);
              nodes_fit = let f = x.nodes_fit in let n = a.last_node in omega (arith, f, n, l);
            }

        added : (u : Tree) (ts : List Tree) (e : c.others ≡ u ∷ ts) (n : Numbers) → IsChainAdded (first + 1) (rest u ts e) new n
            → IsChainAdded first (record { from = c.from; from_number = c.from_number; to = c.to; to_number = c.to_number; tree = c.tree; others = u ∷ ts; next = c.next }) now n
        added u ts e n y =
            let last = a.last_node in
            let to : table_of nodes c.next ≡ Some (now.last_node + 1) = ap (λ (xs : List (Option ℕ)). table_of xs c.next) (sym a.nodes) ∙ node_new in
            record {
              arcs = λ k.
                  y.arcs k
                  ∙ ap (λ m. numbered (from_on (first + 1) (suc (length ts))) (from_on m (suc (length ts))) (table_of new.arcs.items) k) edges_now
                  ∙ (λ i. numbered (from_on (first + 1) (suc (length ts))) (from_on (length now.edges.items + 1) (suc (length ts))) (λ z. arcs_now z i) k);
              nodes = λ m.
                  y.nodes m
                  ∙ ap (λ j. numbered (from_on (c.next + 1) (length ts)) (from_on (j + 1) (length ts)) (table_of new.nodes.items) m) last
                  ∙ (λ i. numbered (from_on (c.next + 1) (length ts)) (from_on (now.last_node + 1 + 1) (length ts)) (λ z. nodes_now z i) m);
              edges =
                  y.edges
                  ∙ ap (λ j. new.edges.items ++ chain (now.last_node + 1) (u ∷ ts) (j + 1) c.to_number) last
                  ∙ ap (λ (xs : List Arc). xs ++ chain (now.last_node + 1) (u ∷ ts) (now.last_node + 1 + 1) c.to_number)
                  (a.edges ∙ ap (λ (arc : Arc). now.edges.items ++ arc ∷ []) (renumbered_as (table_of nodes) c.next (now.last_node + 1) (start_named fresh nodes m_nodes) to (goes_on u ts e)))
                  ∙ append_assoc now.edges.items (record { from = c.from_number; to = now.last_node + 1; tree = c.tree } ∷ []) (chain (now.last_node + 1) (u ∷ ts) (now.last_node + 1 + 1) c.to_number);
              last_node = let z = y.last_node in omega (arith, z, last);
              placed = y.placed ∙ a.placed;
              arcs_each = y.arcs_each ∙ ap (λ (xs : List (Option ℕ)). length xs) a.arcs ∙ length-set now.arcs.items first (Some (length now.edges.items));
              nodes_each = y.nodes_each ∙ ap (λ (xs : List (Option ℕ)). length xs) (a.nodes ∙ m_nodes) ∙ length-set now.nodes.items edge.to (Some (now.last_node + 1));
              traced = λ t.
                  y.traced (traced_more now new first arc_within first_fresh a.arcs a.origins edges_now t);
            }

pub some_of : (o : Option ℕ) → is_some o ≡ true → (l : ℕ) × (o ≡ Some l)
some_of None e = absurd cc
some_of (Some l) e = (l, refl)

pub none_of : (o : Option ℕ) → is_some o ≡ false → o ≡ None
none_of None e = refl
none_of (Some l) e = absurd cc
