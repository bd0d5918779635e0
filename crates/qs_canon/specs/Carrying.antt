-- When a graph that grew by firings is carried into another that grew from the same start, and when two such graphs are
-- the same up to numbering. (This project.)
use Rattle.std.specs.Prelude.{ℕ, ◌<◌, ◌≡◌, List, length, map, slice_get, Some}
use Rattle.qs_tree.specs.Lists.{◌∈◌}
use Rattle.qs_pattern.specs.Rules.{Rule}
use Rattle.qs_graph.specs.Graphs.{Arc, QGraph, IsNode}
use Rattle.qs_firing.specs.Firings.{Firing}
use Rattle.qs_firing.specs.Adding.{result_arcs}
use Rattle.qs_core.specs.Growth.{DoneAt}

-- A firing with other numbers for the arcs of its path: its rule and its substitution stay.
abbrev pub image : (ℕ → ℕ) → Firing → Firing
image arcs f = record { rule = f.rule; path = map arcs f.path; values = f.values }

-- From the start G the graph H grew by the firings fs, and the graph K by the firings gs. Two maps, one of the numbers
-- of arcs and one of the numbers of nodes, carry H with its firings into K with its own.
pub record IsCarried
    (R : List Rule) (G : QGraph) (fs : List Firing) (H : QGraph) (gs : List Firing) (K : QGraph) (arcs nodes : ℕ → ℕ)
    : Type 0 where
  -- Arcs go to arcs, no two to one, and each arc of the start to itself. Likewise nodes.
  pub arcs_in : (k : ℕ) → k < length H.arcs → arcs k < length K.arcs
  pub arcs_apart : (k l : ℕ) → k < length H.arcs → l < length H.arcs → arcs k ≡ arcs l → k ≡ l
  pub arcs_start : (k : ℕ) → k < length G.arcs → arcs k ≡ k
  pub nodes_in : (n : ℕ) → IsNode H n → IsNode K (nodes n)
  pub nodes_apart : (n m : ℕ) → IsNode H n → IsNode H m → nodes n ≡ nodes m → n ≡ m
  pub nodes_start : (n : ℕ) → IsNode G n → nodes n ≡ n
  -- The arc to which an arc goes has the nodes to which its ends go, and the same tree.
  pub arc : (k : ℕ) (arc : Arc) → slice_get H.arcs k ≡ Some arc
      → slice_get K.arcs (arcs k) ≡ Some (record { from = nodes arc.from; to = nodes arc.to; tree = arc.tree })
  -- Each firing goes to a firing with the same rule and the same substitution, no two to one.
  pub firing : (f : Firing) → f ∈ fs → image arcs f ∈ gs
  pub firing_apart : (f g : Firing) → f ∈ fs → g ∈ fs → image arcs f ≡ image arcs g → f ≡ g
  -- The result of each firing goes to the result of the firing to which it goes, arc by arc in order, whether the one
  -- or the other met its result or added it.
  pub results : (f : Firing) (P Q : QGraph) → DoneAt R G fs f P → DoneAt R G gs (image arcs f) Q
      → map arcs (result_arcs R P f) ≡ result_arcs R Q (image arcs f)

-- H with its firings and K with its own are the same up to numbering: two maps carry the one into the other, and every
-- arc, every node and every firing of the other is reached.
pub record AreSame (R : List Rule) (G : QGraph) (fs : List Firing) (H : QGraph) (gs : List Firing) (K : QGraph)
    : Type 0 where
  pub arcs : ℕ → ℕ
  pub nodes : ℕ → ℕ
  pub carried : IsCarried R G fs H gs K arcs nodes
  pub arcs_onto : (l : ℕ) → l < length K.arcs → (k : ℕ) × (k < length H.arcs) × (arcs k ≡ l)
  pub nodes_onto : (m : ℕ) → IsNode K m → (n : ℕ) × IsNode H n × (nodes n ≡ m)
  pub firings_onto : (g : Firing) → g ∈ gs → (f : Firing) × (f ∈ fs) × (image arcs f ≡ g)
