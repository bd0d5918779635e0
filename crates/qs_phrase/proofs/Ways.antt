-- Ways through a valid graph: they are short, and each arc lies on one from the entry to the exit.
use Rattle.std.proofs.Common.{◌≡◌, ◌≢◌, ◌<◌, ◌≤◌, ◌+◌, ◌⊎◌, ℕ, zero, suc, Some, slice_get, List, [], ◌∷◌, ◌++◌, length, refl, sym, ◌∙◌, ap, subst, inl, inr, ⊎_elim, arith, length-append}
use Rattle.qs_tree.specs.Lists.{◌∈◌}
use Rattle.qs_tree.proofs.Decisions.{decide_number}
use Rattle.qs_tree.proofs.Members.{in_at, in_append_right}
use Rattle.qs_graph.specs.Graphs.{Arc, QGraph, Leads, IsNode, IsEntry, IsExit, IsValid}
use Rattle.qs_graph.specs.working.Orders.{AreApart}
use Rattle.qs_graph.proofs.Paths.{leads-append}
use Rattle.qs_graph.proofs.Numbers.{apart_fit}
use Rattle.qs_phrase.specs.Readings.{IsReading}
use Rattle.qs_phrase.specs.working.Leaving.{Leaves}
use Rattle.qs_phrase.specs.working.Walking.{IsWay}

-- ---- parts of paths

-- a path through a node is two paths
pub record Through (arcs : List Arc) (a : ℕ) (ks ls : List ℕ) (b : ℕ) : Type 0 where
  pub node : ℕ
  pub before : Leads arcs a ks node
  pub behind : Leads arcs node ls b

pub leads_through : (arcs : List Arc) (a : ℕ) (ks ls : List ℕ) (b : ℕ) → Leads arcs a (ks ++ ls) b → Through arcs a ks ls b
leads_through arcs a [] ls b l = record { node = a; before = refl; behind = l }
leads_through arcs a (k ∷ ks) ls b (arc, is, e, l) =
    let t = leads_through arcs arc.to ks ls b l in
    record { node = t.node; before = (arc, is, e, t.before); behind = t.behind }

-- equal numbers are those of one arc
pub same_arc : (arcs : List Arc) (j k : ℕ) (x y : Arc) → j ≡ k → slice_get arcs j ≡ Some x → slice_get arcs k ≡ Some y → y ≡ x
same_arc arcs j k x y e at_j at_k = let at : slice_get arcs k ≡ Some x = ap (slice_get arcs) (sym e) ∙ at_j in cc

-- at each number of an arc there is one
pub arc_at : (arcs : List Arc) (k : ℕ) → k < length arcs → (arc : Arc) × (slice_get arcs k ≡ Some arc)
arc_at [] k low = absurd (omega arith)
arc_at (arc ∷ arcs) zero low = (arc, refl)
arc_at (arc ∷ arcs) (suc k) low = arc_at arcs k (omega arith)

-- one arc more
pub leads_more : (arcs : List Arc) (a : ℕ) (ks : List ℕ) (m k : ℕ) (arc : Arc) → Leads arcs a ks m → slice_get arcs k ≡ Some arc → arc.from ≡ m → Leads arcs a (ks ++ k ∷ []) arc.to
leads_more arcs a ks m k arc l is e = leads-append arcs a ks m (k ∷ []) arc.to l (arc, is, e, refl)

-- ---- a path visits no node twice

visited : (arcs : List Arc) (a : ℕ) (ks : List ℕ) (b : ℕ) → Leads arcs a ks b → List ℕ
visited arcs a [] b l = a ∷ []
visited arcs a (k ∷ ks) b (arc, is, e, l) = a ∷ visited arcs arc.to ks b l

length-visited : (arcs : List Arc) (a : ℕ) (ks : List ℕ) (b : ℕ) (l : Leads arcs a ks b) → length (visited arcs a ks b l) ≡ suc (length ks)
unfolding visited
length-visited arcs a [] b l = refl
length-visited arcs a (k ∷ ks) b (arc, is, e, l) = ap suc (length-visited arcs arc.to ks b l)

-- a visited node is the end of a front of the path
to_visited : (arcs : List Arc) (a : ℕ) (ks : List ℕ) (b : ℕ) (l : Leads arcs a ks b) (n : ℕ) → n ∈ visited arcs a ks b l → (js : List ℕ) × Leads arcs a js n
unfolding visited
to_visited arcs a [] b l n (inl e) = ([], sym e)
to_visited arcs a [] b l n (inr i) = absurd i
to_visited arcs a (k ∷ ks) b (arc, is, e, l) n (inl d) = ([], sym d)
to_visited arcs a (k ∷ ks) b (arc, is, e, l) n (inr i) = let (js, m) = to_visited arcs arc.to ks b l n i in (k ∷ js, (arc, is, e, m))

module _ (G : QGraph) (valid : IsValid G) where
  pub end_node : (a : ℕ) (ks : List ℕ) (b : ℕ) → IsNode G a → Leads G.arcs a ks b → IsNode G b
  end_node a [] b n l = subst (IsNode G) l n
  end_node a (k ∷ ks) b n (arc, is, e, l) = end_node arc.to ks b (valid.in_range arc (in_at G.arcs k arc is)).1 l

  visited_apart : (a : ℕ) (ks : List ℕ) (b : ℕ) (l : Leads G.arcs a ks b) → AreApart (visited G.arcs a ks b l)
  unfolding visited
  visited_apart a [] b l = ((λ none. none), tt)
  visited_apart a (k ∷ ks) b (arc, is, e, l) = (
    λ i. let (js, m) = to_visited G.arcs arc.to ks b l a i in valid.no_cycle a (k ∷ js) (record { some = omega arith; leads = (arc, is, e, m) }),
    visited_apart arc.to ks b l,
  )

  -- so it has fewer arcs than there are nodes
  pub path_is_short : (a : ℕ) (ks : List ℕ) (b : ℕ) → IsNode G a → Leads G.arcs a ks b → length ks < G.nodes
  path_is_short a ks b node l = omega (
    arith,
    length-visited G.arcs a ks b l,
    apart_fit G.nodes (visited G.arcs a ks b l) (visited_apart a ks b l) (λ n i. let (js, m) = to_visited G.arcs a ks b l n i in end_node a js n node m),
  )

  -- ---- the entry and the exit

  pub one_entry : (a b : ℕ) → IsEntry G a → IsEntry G b → a ≡ b
  one_entry a b p q = valid.entry.only a p ∙ sym (valid.entry.only b q)

  pub one_exit : (a b : ℕ) → IsExit G a → IsExit G b → a ≡ b
  one_exit a b p q = valid.exit.only a p ∙ sym (valid.exit.only b q)

  -- an arc out of a node, or none
  pub some_out : (arcs : List Arc) (n : ℕ) → ((k : ℕ) × Leaves arcs n k) ⊎ ((arc : Arc) → arc ∈ arcs → arc.from ≢ n)
  some_out [] n = inr (λ arc i. absurd i)
  some_out (x ∷ arcs) n = by (decide_number x.from n) (some_out arcs n)
    where
      by : Dec (x.from ≡ n) → ((k : ℕ) × Leaves arcs n k) ⊎ ((arc : Arc) → arc ∈ arcs → arc.from ≢ n) → ((k : ℕ) × Leaves (x ∷ arcs) n k) ⊎ ((arc : Arc) → arc ∈ (x ∷ arcs) → arc.from ≢ n)
      by (yes e) rest = inl (0, (x, refl, e))
      by (no d) (inl (k, leaves)) = inl (suc k, leaves)
      by (no d) (inr none) = inr (λ arc i. ⊎_elim (λ s. subst (λ (y : Arc). y.from ≢ n) (sym s) d) (none arc) i)

  some_in : (arcs : List Arc) (n : ℕ) → ((k : ℕ) × (arc : Arc) × (slice_get arcs k ≡ Some arc) × (arc.to ≡ n)) ⊎ ((arc : Arc) → arc ∈ arcs → arc.to ≢ n)
  some_in [] n = inr (λ arc i. absurd i)
  some_in (x ∷ arcs) n = by (decide_number x.to n) (some_in arcs n)
    where
      by : Dec (x.to ≡ n) → ((k : ℕ) × (arc : Arc) × (slice_get arcs k ≡ Some arc) × (arc.to ≡ n)) ⊎ ((arc : Arc) → arc ∈ arcs → arc.to ≢ n)
          → ((k : ℕ) × (arc : Arc) × (slice_get (x ∷ arcs) k ≡ Some arc) × (arc.to ≡ n)) ⊎ ((arc : Arc) → arc ∈ (x ∷ arcs) → arc.to ≢ n)
      by (yes e) rest = inl (0, x, refl, e)
      by (no d) (inl (k, arc, is, e)) = inl (suc k, arc, is, e)
      by (no d) (inr none) = inr (λ arc i. ⊎_elim (λ s. subst (λ (y : Arc). y.to ≢ n) (sym s) d) (none arc) i)

  -- ---- each arc lies on a reading

  -- from a node on, along any arcs, to the exit
  onward : (more : ℕ) (a : ℕ) (ks : List ℕ) (n : ℕ) → IsNode G a → Leads G.arcs a ks n → G.nodes ≤ more + length ks → (js : List ℕ) × IsWay G n js
  onward zero a ks n node l few = absurd (omega (arith, path_is_short a ks n node l))
  onward (suc more) a ks n node l few =
      by (some_out G.arcs n)
      (λ k arc is e. onward more a (ks ++ k ∷ []) arc.to node (leads_more G.arcs a ks n k arc l is e) (omega (arith, length-append ks (k ∷ []))))
    where
      by : ((k : ℕ) × Leaves G.arcs n k) ⊎ ((arc : Arc) → arc ∈ G.arcs → arc.from ≢ n)
          → ((k : ℕ) (arc : Arc) → slice_get G.arcs k ≡ Some arc → arc.from ≡ n → (js : List ℕ) × IsWay G arc.to js) → (js : List ℕ) × IsWay G n js
      by (inl (k, leaves)) rest =
          let (arc, is, e) = leaves in
          let (js, way) = rest k arc is e in
          (k ∷ js, record { exit = way.exit; is_exit = way.is_exit; leads = (arc, is, e, way.leads) })
      by (inr none) rest = ([], record { exit = n; is_exit = record { node = end_node a ks n node l; none_out = none }; leads = refl })

  -- from a node back, along any arcs, to the entry
  backward : (more : ℕ) (n : ℕ) (ks : List ℕ) (b : ℕ) → IsNode G n → Leads G.arcs n ks b → G.nodes ≤ more + length ks → (a : ℕ) × (js : List ℕ) × IsEntry G a × Leads G.arcs a js n
  backward zero n ks b node l few = absurd (omega (arith, path_is_short n ks b node l))
  backward (suc more) n ks b node l few =
      by (some_in G.arcs n)
      (λ k arc is e. backward more arc.from (k ∷ ks) b (valid.in_range arc (in_at G.arcs k arc is)).0 (arc, is, refl, subst (λ i. Leads G.arcs i ks b) (sym e) l) (omega arith))
    where
      by : ((k : ℕ) × (arc : Arc) × (slice_get G.arcs k ≡ Some arc) × (arc.to ≡ n)) ⊎ ((arc : Arc) → arc ∈ G.arcs → arc.to ≢ n)
          → ((k : ℕ) (arc : Arc) → slice_get G.arcs k ≡ Some arc → arc.to ≡ n → (a : ℕ) × (js : List ℕ) × IsEntry G a × Leads G.arcs a js arc.from) → (a : ℕ) × (js : List ℕ) × IsEntry G a × Leads G.arcs a js n
      by (inl (k, arc, is, e)) rest =
          let (a, js, entry, m) = rest k arc is e in
          (a, js ++ k ∷ [], entry, subst (λ i. Leads G.arcs a (js ++ k ∷ []) i) e (leads_more G.arcs a js arc.from k arc m is refl))
      by (inr none) rest = (n, [], record { node = node; none_in = none }, refl)

  pub on_a_reading : (k : ℕ) (arc : Arc) → slice_get G.arcs k ≡ Some arc → (path : List ℕ) × IsReading G path × (k ∈ path)
  on_a_reading k arc is =
      let ends = valid.in_range arc (in_at G.arcs k arc is) in
      let (a, js, entry, before) = backward G.nodes arc.from [] arc.from ends.0 refl (omega arith) in
      let (ls, way) = onward G.nodes arc.to [] arc.to ends.1 refl (omega arith) in (
        js ++ k ∷ ls,
        record {
          entry = a;
          exit = way.exit;
          is_entry = entry;
          is_exit = way.is_exit;
          is_path = record {
            some = omega (arith, length-append js (k ∷ ls));
            leads = leads-append G.arcs a js arc.from (k ∷ ls) way.exit before (arc, is, refl, way.leads);
          };
        },
        in_append_right js (k ∷ ls) k (inl refl),
      )

  -- ---- readings are the ways from the entry

  pub way_of : (a : ℕ) (path : List ℕ) → IsEntry G a → IsReading G path → IsWay G a path
  way_of a path entry r = record {
    exit = r.exit;
    is_exit = r.is_exit;
    leads = subst (λ n. Leads G.arcs n path r.exit) (one_entry r.entry a r.is_entry entry) r.is_path.leads;
  }

  -- the exit isn't the entry
  pub some_arc_on : (a : ℕ) (path : List ℕ) → IsEntry G a → IsWay G a path → 0 < length path
  some_arc_on a (k ∷ ks) entry way = omega arith
  some_arc_on a [] entry way =
      let (arc, is) = arc_at G.arcs 0 valid.some_arc in
      let (path, r, i) = on_a_reading 0 arc is in
      absurd (by path (way_of a path entry r) r.is_path.some)
    where
      by : (path : List ℕ) → IsWay G a path → 0 < length path → ⊥
      by [] w l = omega arith
      by (k ∷ ks) w l =
          let (arc, is, e, rest) = w.leads in
          way.is_exit.none_out arc (in_at G.arcs k arc is) (e ∙ way.leads)

  pub reading_of : (a : ℕ) (path : List ℕ) → IsEntry G a → IsWay G a path → IsReading G path
  reading_of a path entry way = record {
    entry = a;
    exit = way.exit;
    is_entry = entry;
    is_exit = way.is_exit;
    is_path = record { some = some_arc_on a path entry way; leads = way.leads };
  }
