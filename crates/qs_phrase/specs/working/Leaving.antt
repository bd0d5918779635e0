-- The arcs that leave a node, from the least number up.
use Rattle.std.specs.Prelude.{ℕ, suc, ◌+◌, ◌≡◌, ◌≤◌, List, length, Option, Some, None, slice_get}
use Rattle.qs_graph.specs.Graphs.{Arc, QGraph}

-- The arc with this number leaves the node.
abbrev pub Leaves : List Arc → ℕ → ℕ → Type 0
Leaves arcs n k = (arc : Arc) × (slice_get arcs k ≡ Some arc) × (arc.from ≡ n)

-- The least number, from `low` on, of an arc that leaves the node; none where there is none.
abbrev pub IsLeast : List Arc → ℕ → ℕ → Option ℕ → Type 0
IsLeast arcs n low (Some k) = (low ≤ k) × Leaves arcs n k × ((j : ℕ) → low ≤ j → Leaves arcs n j → k ≤ j)
IsLeast arcs n low None = (j : ℕ) → low ≤ j → Leaves arcs n j → ⊥

-- For each node the least number, from `low` on, of an arc that leaves it, and for each arc from `low` on the least
-- greater number of an arc that leaves the same node.
pub record IsIndex (G : QGraph) (low : ℕ) (first next : List (Option ℕ)) : Type 0 where
  pub first_len : length first ≡ G.nodes + 1
  pub next_len : length next ≡ length G.arcs
  pub first_is : (n : ℕ) (o : Option ℕ) → slice_get first n ≡ Some o → IsLeast G.arcs n low o
  pub next_is : (k : ℕ) (arc : Arc) (o : Option ℕ) → low ≤ k → slice_get G.arcs k ≡ Some arc
      → slice_get next k ≡ Some o → IsLeast G.arcs arc.from (suc k) o
