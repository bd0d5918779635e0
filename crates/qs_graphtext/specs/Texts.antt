-- The text of a graph: a line `-GRAPHE-`, a line for each arc in order, and a line `-FIN-`. This spelling is this
-- project's own.
use Rattle.std.specs.Prelude.{ℕ, List, ◌++◌, flat_map, codes, decimal}
use Rattle.qs_tree.specs.Lists.{◌∈◌}
use Rattle.qs_tree.specs.Text.{tree_text, IsNamed}
use Rattle.qs_graph.specs.Graphs.{Arc, QGraph}

-- A line ends with one line feed.
abbrev pub line : List ℕ → List ℕ
line text = text ++ codes "\n"

-- A node is written as its number in decimal, without leading zero, between dashes: `-12-`
abbrev pub node_mark : ℕ → List ℕ
node_mark n = codes "-" ++ (decimal n ++ codes "-")

-- An arc: `-1- S(NP,VP) -2-.`
abbrev pub arc_line : List (List ℕ) → Arc → List ℕ
arc_line names arc =
    line (node_mark arc.from
    ++ (codes " " ++ (tree_text names arc.tree ++ (codes " " ++ (node_mark arc.to ++ codes ".")))))

abbrev pub graph_text : List (List ℕ) → QGraph → List ℕ
graph_text names graph = line (codes "-GRAPHE-") ++ (flat_map (arc_line names) graph.arcs ++ line (codes "-FIN-"))

-- Each label in the trees on these arcs is one of the first n.
abbrev pub AreArcsNamed : ℕ → List Arc → Type 0
AreArcsNamed n arcs = (arc : Arc) → arc ∈ arcs → IsNamed n arc.tree
