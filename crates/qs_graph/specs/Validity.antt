-- Which arcs make a graph, and why others make none.
use Rattle.std.specs.Prelude.{ℕ, List}
use Rattle.qs_tree.specs.Lists.{◌∈◌}
use Rattle.qs_graph.specs.Graphs.{Arc, QGraph, IsNode, IsPath, IsEntry, IsExit, ExactlyOne}
use Rattle.qs_graph.specs.declared.making.GraphEnd.{GraphEnd}
use Rattle.qs_graph.specs.declared.making.GraphEnd.TheVariants as end

-- Each arc leads from node to node.
abbrev pub LeadsInside : QGraph → Type 0
LeadsInside G = (arc : Arc) → arc ∈ G.arcs → IsNode G arc.from × IsNode G arc.to

-- Some path comes back to the node from which it starts.
pub record HasCycle (arcs : List Arc) : Type 0 where
  pub node : ℕ
  pub path : List ℕ
  pub is : IsPath arcs node path node

-- Why nodes and arcs make no valid graph: there is a cycle; else not exactly one node is an entry; else not exactly one
-- is an exit. Want of memory says nothing of them.
abbrev pub IsRefused : QGraph → GraphEnd → Type 0
IsRefused G end.Cycle = HasCycle G.arcs
IsRefused G end.Entries = (HasCycle G.arcs → ⊥) × (ExactlyOne (IsEntry G) → ⊥)
IsRefused G end.Exits = (HasCycle G.arcs → ⊥) × ExactlyOne (IsEntry G) × (ExactlyOne (IsExit G) → ⊥)
IsRefused G end.Memory = Unit {0}
