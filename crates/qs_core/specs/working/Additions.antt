-- What is worked out of a firing before it is done.
use Rattle.std.specs.Prelude.{ℕ, Bool, ◌+◌, ◌≡◌, ◌++◌, List, length}
use Rattle.qs_pattern.specs.Rules.{Rule}
use Rattle.qs_graph.specs.Graphs.{Arc, QGraph}
use Rattle.qs_firing.specs.Firings.{Firing}
use Rattle.qs_firing.specs.Adding.{adds, added, first_arc, meets}

-- The first arc of the result of f over G, whether it is met, and the nodes and the arcs that f adds.
pub record IsAddition (R : List Rule) (G : QGraph) (f : Firing) (first : ℕ) (met : Bool) (nodes : ℕ) (arcs : List Arc)
    : Type 0 where
  pub first_is : first ≡ first_arc R G f
  pub met_is : met ≡ meets R G f
  pub graph_is : ◌≡◌ {A = QGraph} (record { nodes = G.nodes + nodes; arcs = G.arcs ++ arcs }) (adds R G f)
  pub many : length arcs ≡ length (added R G f)
