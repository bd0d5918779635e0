-- The result of a recorded firing, whose arcs get their numbers one by one.
use Rattle.std.specs.Prelude.{ℕ, ◌+◌, ◌^◌, ◌<◌, ◌≤◌, ◌≡◌, ◌↔◌, List, ◌∷◌, ◌++◌, length, slice_get, Some, None}
use Rattle.qs_tree.specs.Trees.{Tree}
use Rattle.qs_graph.specs.Graphs.{Arc, QGraph}
use Rattle.qs_graph.specs.Chains.{chain}
use Rattle.qs_firing.specs.Adding.{from_on}
use Rattle.qs_canon.specs.declared.numbers.Numbers.{Numbers}
use Rattle.qs_canon.specs.working.CanonTables.{numbered}
use Rattle.qs_canon.specs.working.CanonNumbers.{table_of}

-- For each arc of the closure so far there is the arc of the machine whose number it is.
pub record IsTraced (now : Numbers) : Type 0 where
  pub each : length now.origins.items ≡ length now.edges.items
  pub origin : (k l : ℕ) → (table_of now.arcs.items k ≡ Some l) ↔ (slice_get now.origins.items l ≡ Some k)

-- A chain: the nodes between which it leads, with their numbers, its first tree and the others, and its first new node.
pub record Chain : Type 0 where
  pub from : ℕ
  pub from_number : ℕ
  pub to : ℕ
  pub to_number : ℕ
  pub tree : Tree
  pub others : List Tree
  pub next : ℕ

abbrev pub trees_of : Chain → List Tree
trees_of c = c.tree ∷ c.others

-- The graph H has the chain, from arc `first` on. No arc and no new node of it has a number so far.
pub record IsUnnumbered (H : QGraph) (now : Numbers) (first : ℕ) (c : Chain) : Type 0 where
  pub within : first + length (trees_of c) ≤ length H.arcs
  pub stands : (j : ℕ) (arc : Arc) → slice_get (chain c.from (trees_of c) c.next c.to) j ≡ Some arc
      → slice_get H.arcs (first + j) ≡ Some arc
  pub from_is : table_of now.nodes.items c.from ≡ Some c.from_number
  pub to_is : table_of now.nodes.items c.to ≡ Some c.to_number
  pub new_nodes : (j : ℕ) → j < length c.others → table_of now.nodes.items (c.next + j) ≡ None
  pub new_arcs : (j : ℕ) → j < length (trees_of c) → table_of now.arcs.items (first + j) ≡ None
  pub nodes_within : c.next + length c.others ≤ length now.nodes.items
  pub arcs_each : length now.arcs.items ≡ length H.arcs
  pub arcs_fit : length now.edges.items + length (trees_of c) ≤ 2 ^ 32
  pub nodes_fit : now.last_node + length c.others < 2 ^ 32

-- The arcs of the chain, from arc `first` on, and its new nodes have got the next numbers, in order.
pub record IsChainAdded (first : ℕ) (c : Chain) (old new : Numbers) : Type 0 where
  pub arcs : (k : ℕ) → table_of new.arcs.items k
      ≡ numbered (from_on first (length (trees_of c))) (from_on (length old.edges.items) (length (trees_of c)))
      (table_of old.arcs.items) k
  pub nodes : (n : ℕ) → table_of new.nodes.items n
      ≡ numbered (from_on c.next (length c.others)) (from_on (old.last_node + 1) (length c.others))
      (table_of old.nodes.items) n
  pub edges : new.edges.items
      ≡ old.edges.items ++ chain c.from_number (trees_of c) (old.last_node + 1) c.to_number
  pub last_node : new.last_node ≡ old.last_node + length c.others
  pub placed : new.placed.items ≡ old.placed.items
  pub arcs_each : length new.arcs.items ≡ length old.arcs.items
  pub nodes_each : length new.nodes.items ≡ length old.nodes.items
  pub traced : IsTraced old → IsTraced new
