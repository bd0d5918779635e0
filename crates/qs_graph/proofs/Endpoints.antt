-- Entries and exits as the nodes at which no arc ends, or from which none begins.
use Rattle.std.proofs.Common.{◌≡◌, ◌≢◌, ◌↔◌, ℕ, ◌<◌, ◌≤◌, Option, Some, None, List, [], ◌∷◌, ◌++◌, length, map, refl, sym, subst, ⊎_elim}
use Rattle.std.specs.Prelude.{Result, Ok, Err, IfOk}
use Rattle.qs_tree.specs.Lists.{◌∈◌}
use Rattle.qs_tree.proofs.Members.{in_map, from_map, from_append}
use Rattle.qs_graph.specs.Graphs.{Arc, QGraph, IsNode, IsEntry, IsExit, ExactlyOne}
use Rattle.qs_graph.specs.Limits.{arc_bound}
use Rattle.qs_graph.specs.Kept.{IsKept}
use Rattle.qs_graph.specs.Validity.{HasCycle, LeadsInside}
use Rattle.qs_graph.specs.working.Orders.{IsOutside, IsOnly}

pub only_same : (P Q : ℕ → Type 0) → ((n : ℕ) → P n ↔ Q n) → (r : Option ℕ) → IsOnly P r → IsOnly Q r
only_same P Q h (Some n) o = ((h n).0 o.0, λ m q. o.1 m ((h m).1 q))
only_same P Q h None o = λ one. o (record { one = one.one; holds = (h one.one).1 one.holds; only = λ n p. one.only n ((h n).0 p) })

pub only_ok : (P Q : ℕ → Type 0) → ((n : ℕ) → P n ↔ Q n) → {E : Type 0} (r : Result (Option ℕ) E) → IfOk r (IsOnly P) → IfOk r (IsOnly Q)
only_ok P Q h (Ok r) o = only_same P Q h r o
only_ok P Q h (Err e) o = o

pub outside_entry : (G : QGraph) (n : ℕ) → IsOutside G.nodes (map (λ arc. arc.to) G.arcs) n ↔ IsEntry G n
outside_entry G n = (
  λ o. record { node = (o.low, o.high); none_in = λ arc i e. o.out (subst (λ m. m ∈ map (λ (x : Arc). x.to) G.arcs) e (in_map (λ (x : Arc). x.to) G.arcs arc i)) },
  λ e. record { low = e.node.0; high = e.node.1; out = λ i. from_map (λ (x : Arc). x.to) G.arcs (λ m. m ≢ n) (λ arc j. e.none_in arc j) n i refl },
)

pub outside_exit : (G : QGraph) (n : ℕ) → IsOutside G.nodes (map (λ arc. arc.from) G.arcs) n ↔ IsExit G n
outside_exit G n = (
  λ o. record { node = (o.low, o.high); none_out = λ arc i e. o.out (subst (λ m. m ∈ map (λ (x : Arc). x.from) G.arcs) e (in_map (λ (x : Arc). x.from) G.arcs arc i)) },
  λ e. record { low = e.node.0; high = e.node.1; out = λ i. from_map (λ (x : Arc). x.from) G.arcs (λ m. m ≢ n) (λ arc j. e.none_out arc j) n i refl },
)

-- what the only number that P holds of says
pub exactly : (P : ℕ → Type 0) (n : ℕ) → IsOnly P (Some n) → ExactlyOne P
exactly P n o = record { one = n; holds = o.0; only = o.1 }

pub graph_kept : (G : QGraph) → 0 < length G.arcs → length G.arcs < arc_bound → ((arc : Arc) → arc ∈ G.arcs → IsNode G arc.from × IsNode G arc.to) → (HasCycle G.arcs → ⊥)
    → (entry exit : ℕ) → IsOnly (IsEntry G) (Some entry) → IsOnly (IsExit G) (Some exit) → IsKept G entry exit
graph_kept G some few in_range acyclic entry exit e x = record {
  valid = record {
    some_arc = some;
    in_range = in_range;
    no_cycle = λ a path is. acyclic (record { node = a; path = path; is = is });
    entry = exactly (IsEntry G) entry e;
    exit = exactly (IsExit G) exit x;
  };
  entry_is = e.0;
  exit_is = x.0;
  few = few;
}

-- what was answered about the arcs that were lent
pub lent : (E : QGraph → ℕ → Type 0) (nodes : ℕ) (arcs kept : List Arc) → arcs ≡ kept → (r s : Option ℕ) → r ≡ s → IsOnly (E (record { nodes = nodes; arcs = arcs })) r → IsOnly (E (record { nodes = nodes; arcs = kept })) s
lent E nodes arcs kept same r s is o = subst (IsOnly (E (record { nodes = nodes; arcs = kept }))) is (subst (λ xs. IsOnly (E (record { nodes = nodes; arcs = xs })) r) same o)

-- one arc more from node to node
pub inside_more : (nodes : ℕ) (arcs new : List Arc) (arc : Arc) → new ≡ arcs ++ arc ∷ [] → (1 ≤ arc.from) × (arc.from ≤ nodes) → (1 ≤ arc.to) × (arc.to ≤ nodes)
    → LeadsInside (record { nodes = nodes; arcs = arcs }) → LeadsInside (record { nodes = nodes; arcs = new })
inside_more nodes arcs new arc e from to h other i = ⊎_elim (h other)
    (λ j. ⊎_elim (λ s. subst (λ (x : Arc). ((1 ≤ x.from) × (x.from ≤ nodes)) × ((1 ≤ x.to) × (x.to ≤ nodes))) (sym s) (from, to)) (λ none. absurd none) j)
    (from_append arcs (arc ∷ []) other (subst (λ xs. other ∈ xs) e i))

pub inside_same : (nodes : ℕ) (arcs new : List Arc) → new ≡ arcs → LeadsInside (record { nodes = nodes; arcs = arcs }) → LeadsInside (record { nodes = nodes; arcs = new })
inside_same nodes arcs new e h = subst (λ xs. LeadsInside (record { nodes = nodes; arcs = xs })) (sym e) h
