-- When grammars can be run on a graph, one after another.
use Rattle.std.specs.Prelude.{ℕ, ◌+◌, ◌*◌, ◌≤◌, List, length}
use Rattle.qs_graph.specs.Graphs.{QGraph, IsValid}
use Rattle.qs_graphtext.specs.Texts.{AreArcsNamed}

-- A valid graph on which so many grammars can still be run: its labels are named, and there is room for 16,000,000
-- arcs and nodes more for each of the grammars, which is 16 for each firing of the greatest limit.
pub record CanGoOn (names : List (List ℕ)) (graph : QGraph) (grammars : ℕ) : Type 0 where
  pub valid : IsValid graph
  pub named : AreArcsNamed (length names) graph.arcs
  pub arcs : length graph.arcs + 16000000 * grammars ≤ 4200000000
  pub nodes : graph.nodes + 16000000 * grammars ≤ 4200000000
