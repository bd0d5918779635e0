-- What a closure and the numbers in it say of a run. (This project.)
use Rattle.std.specs.Prelude.{ℕ, ◌-◌, ◌<◌, ◌≡◌, List, length, slice_get, Some}
use Rattle.qs_graph.specs.Graphs.{IsNode}
use Rattle.qs_core.specs.Core.{fired}
use Rattle.qs_core.specs.Runs.{Machine}
use Rattle.qs_canon.specs.Rounds.{firings}
use Rattle.qs_canon.specs.Closures.{ClosureOf, IsClosure}
use Rattle.qs_canon.specs.Carrying.{AreSame}

-- c is the closure of the machine's rules from the graph from which it started. The graph of the machine and that of
-- the closure, each with its firings, are the same up to numbering; and one list has, for each arc of the machine, and
-- another, for each of its nodes from 1, the number to which it goes.
pub record IsNumbering (M : Machine) (c : ClosureOf) (arcs nodes : List ℕ) : Type 0 where
  pub closure : IsClosure M.base.rules M.base.start c
  pub same : AreSame M.base.rules M.base.start (fired M.state) M.state.graph (firings c.stage) c.stage.graph
  pub arcs_each : length arcs ≡ length M.state.graph.arcs
  pub nodes_each : length nodes ≡ M.state.graph.nodes
  pub arcs_are : (k : ℕ) → k < length M.state.graph.arcs → slice_get arcs k ≡ Some (same.arcs k)
  pub nodes_are : (n : ℕ) → IsNode M.state.graph n → slice_get nodes (n - 1) ≡ Some (same.nodes n)
