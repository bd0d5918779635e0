-- What a graph of the program keeps.
use Rattle.std.specs.Prelude.{ℕ, ◌<◌, length}
use Rattle.qs_graph.specs.Graphs.{QGraph, IsValid, IsEntry, IsExit}
use Rattle.qs_graph.specs.Limits.{arc_bound}

-- It is valid, its entry and its exit are known, and the numbers of its arcs fit the program's.
pub record IsKept (G : QGraph) (entry exit : ℕ) : Type 0 where
  pub valid : IsValid G
  pub entry_is : IsEntry G entry
  pub exit_is : IsExit G exit
  pub few : length G.arcs < arc_bound
