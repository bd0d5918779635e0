-- On what a grammar can be run. (This project.)
use Rattle.std.specs.Prelude.{ℕ, ◌<◌, ◌≤◌, ◌+◌, ◌*◌, ◌^◌, length}
use Rattle.qs_pattern.specs.Limits.{most_patterns}
use Rattle.qs_graph.specs.Graphs.{QGraph}

-- A grammar can be run on this graph with L firings: at least one, and so few that whatever they add, the numbers of
-- all arcs and nodes stay below 2 ^ 32.
pub record CanRunOn (G : QGraph) (L : ℕ) : Type 0 where
  pub some : 1 ≤ L
  pub arcs : length G.arcs + most_patterns * L < 2 ^ 32
  pub nodes : G.nodes + most_patterns * L < 2 ^ 32
