-- Q-graphs and their paths, after Colmerauer: a graph without cycles, with one entry and one exit, whose arcs carry
-- trees. The definitions speak of paths; the code counts and marks.
use Rattle.std.specs.Prelude.{ℕ, ◌≤◌, ◌<◌, ◌≡◌, ◌≢◌, List, [], ◌∷◌, length, slice_get, map, Some}
use Rattle.std.specs.List.{filter_map}
use Rattle.qs_tree.specs.Lists.{◌∈◌}
use Rattle.qs_tree.specs.Trees.{Tree}

-- An arc goes from one node to another and carries a tree.
pub record Arc : Type 0 where
  pub from : ℕ
  pub to : ℕ
  pub tree : Tree

-- Nodes are numbered from 1, arcs from 0 by their place in the list.
pub record QGraph : Type 0 where
  pub nodes : ℕ
  pub arcs : List Arc

-- These arcs of the list lead from the node a to the node b: each begins where the one before it ends.
abbrev pub Leads : List Arc → ℕ → List ℕ → ℕ → Type 0
Leads arcs a [] b = a ≡ b
Leads arcs a (k ∷ ks) b = (arc : Arc) × (slice_get arcs k ≡ Some arc) × (arc.from ≡ a) × Leads arcs arc.to ks b

-- A path has at least one arc.
pub record IsPath (arcs : List Arc) (a : ℕ) (path : List ℕ) (b : ℕ) : Type 0 where
  pub some : 0 < length path
  pub leads : Leads arcs a path b

-- The arcs of these numbers, and the trees that they carry.
abbrev pub arcs_at : List Arc → List ℕ → List Arc
arcs_at arcs ks = filter_map (slice_get arcs) ks

abbrev pub trees_on : List Arc → List ℕ → List Tree
trees_on arcs ks = map (λ arc. arc.tree) (arcs_at arcs ks)

abbrev pub IsNode : QGraph → ℕ → Type 0
IsNode G n = (1 ≤ n) × (n ≤ G.nodes)

-- An entry is a node without an arc into it, an exit one without an arc out of it.
pub record IsEntry (G : QGraph) (n : ℕ) : Type 0 where
  pub node : IsNode G n
  pub none_in : (arc : Arc) → arc ∈ G.arcs → arc.to ≢ n

pub record IsExit (G : QGraph) (n : ℕ) : Type 0 where
  pub node : IsNode G n
  pub none_out : (arc : Arc) → arc ∈ G.arcs → arc.from ≢ n

-- P holds of exactly one number.
pub record ExactlyOne (P : ℕ → Type 0) : Type 0 where
  pub one : ℕ
  pub holds : P one
  pub only : (n : ℕ) → P n → n ≡ one

-- A graph is valid where it has an arc, its arcs lead from node to node, no path comes back to where it starts, and
-- there are exactly one entry and exactly one exit.
pub record IsValid (G : QGraph) : Type 0 where
  pub some_arc : 0 < length G.arcs
  pub in_range : (arc : Arc) → arc ∈ G.arcs → IsNode G arc.from × IsNode G arc.to
  pub no_cycle : (a : ℕ) (path : List ℕ) → IsPath G.arcs a path a → ⊥
  pub entry : ExactlyOne (IsEntry G)
  pub exit : ExactlyOne (IsExit G)
