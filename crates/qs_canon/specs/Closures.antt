-- Closures of the program.
use Rattle.std.specs.Prelude.{ℕ, ◌≡◌, List, length}
use Rattle.qs_pattern.specs.Rules.{Rule}
use Rattle.qs_graph.specs.Graphs.{QGraph, IsEntry, IsExit}
use Rattle.qs_canon.specs.Rounds.{Stage, Closes}

-- A stage, with the entry and the exit of its graph and the number of arcs with which it started.
pub record ClosureOf : Type 0 where
  pub stage : Stage
  pub entry : ℕ
  pub exit : ℕ
  pub start : ℕ

-- c is the closure of the rules from the graph G, with the entry and the exit of G, which are its own too.
pub record IsClosure (R : List Rule) (G : QGraph) (c : ClosureOf) : Type 0 where
  pub closes : Closes R G c.stage
  pub entry : IsEntry G c.entry
  pub exit : IsExit G c.exit
  pub start : c.start ≡ length G.arcs
