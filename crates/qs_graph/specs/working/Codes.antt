-- How the logic tells arcs and graphs apart. Nothing that a reader has to believe stands here.
use Rattle.std.specs.Prelude.{ℕ, List, refl}
use Rattle.std.specs.Coded.{Coded, code_by, coded×, coded_list, coded_ℕ}
use Rattle.qs_tree.specs.Trees.{Tree}
use Rattle.qs_tree.specs.working.Cells.{tree_code}
use Rattle.qs_graph.specs.Graphs.{Arc, QGraph}

abbrev pub arc_code : Coded Arc
arc_code = code_by (ℕ × (ℕ × Tree)) (coded× coded_ℕ (coded× coded_ℕ tree_code)) (λ a. (a.from, (a.to, a.tree)))
    (λ p. record { from = p.0; to = p.1.0; tree = p.1.1 }) (λ _. refl)

abbrev pub graph_code : Coded QGraph
graph_code = code_by (ℕ × List Arc) (coded× coded_ℕ (coded_list arc_code)) (λ g. (g.nodes, g.arcs))
    (λ p. record { nodes = p.0; arcs = p.1 }) (λ _. refl)
