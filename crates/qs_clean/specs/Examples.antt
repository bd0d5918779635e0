-- Four small grammars of rules without variables, with what they do worked out.
use Rattle.std.specs.Prelude.{ℕ, false, List, [], ◌∷◌, None}
use Rattle.qs_tree.specs.declared.cell.Label.{Label}
use Rattle.qs_tree.specs.Trees.{Tree, node}
use Rattle.qs_pattern.specs.declared.pattern.Head.TheVariants as head
use Rattle.qs_pattern.specs.Patterns.{Patterns, no_pattern, node_first}
use Rattle.qs_pattern.specs.Rules.{Rule}
use Rattle.qs_graph.specs.Graphs.{Arc, QGraph}
use Rattle.qs_graph.specs.Chains.{line_graph}
use Rattle.qs_canon.specs.Rounds.{Done, Stage}

-- Five labels.
abbrev pub A : Label
A = record { 0 = 0 }

abbrev pub B : Label
B = record { 0 = 1 }

abbrev pub C : Label
C = record { 0 = 2 }

abbrev pub X : Label
X = record { 0 = 3 }

abbrev pub Y : Label
Y = record { 0 = 4 }

-- The tree with this label and no subtree.
abbrev pub leaf : Label → Tree
leaf l = node l []

-- These labels as a side of a rule, and the rule with these two sides and no condition.
abbrev pub side : List Label → Patterns
side [] = no_pattern
side (l ∷ ls) = node_first (head.Label l) no_pattern (side ls)

abbrev pub rule : List Label → List Label → Rule
rule left right = record { left = side left; right = side right; condition = None; unique = false }

-- An arc, and a firing that is done, of the rule with this number on this path, which met no arc.
abbrev pub arc : ℕ → Label → ℕ → Arc
arc a l b = record { from = a; to = b; tree = leaf l }

abbrev pub done : ℕ → List ℕ → ℕ → ℕ → Done
done r path first round =
    record { firing = record { rule = r; path = path; values = [] }; first = first; round = round; met = false }

-- One arc A.
abbrev pub one_arc : QGraph
one_arc = line_graph 1 (leaf A ∷ []) 2

-- The rule A == B on one arc A.
abbrev pub one_rule : List Rule
one_rule = rule (A ∷ []) (B ∷ []) ∷ []

abbrev pub one_rule_closure : Stage
one_rule_closure = record {
  graph = record { nodes = 2; arcs = arc 1 A 2 ∷ arc 1 B 2 ∷ [] };
  done = done 0 (0 ∷ []) 1 1 ∷ [];
}

abbrev pub one_rule_cleaned : QGraph
one_rule_cleaned = record { nodes = 2; arcs = arc 1 B 2 ∷ [] }

-- Two equal rules A == B on one arc A: each fires, and equal arcs stand side by side.
abbrev pub equal_rules : List Rule
equal_rules = rule (A ∷ []) (B ∷ []) ∷ rule (A ∷ []) (B ∷ []) ∷ []

abbrev pub equal_rules_closure : Stage
equal_rules_closure = record {
  graph = record { nodes = 2; arcs = arc 1 A 2 ∷ arc 1 B 2 ∷ arc 1 B 2 ∷ [] };
  done = done 0 (0 ∷ []) 1 1 ∷ done 1 (0 ∷ []) 2 1 ∷ [];
}

abbrev pub equal_rules_cleaned : QGraph
equal_rules_cleaned = record { nodes = 2; arcs = arc 1 B 2 ∷ arc 1 B 2 ∷ [] }

-- The rule A == A on one arc A fires on each arc that it adds.
abbrev pub endless_rule : List Rule
endless_rule = rule (A ∷ []) (A ∷ []) ∷ []

-- The rules A + B == X and B + C == Y on the arcs A, B, C: both fire, so that each of A, B and C is denoted, and
-- neither X nor Y leads from the entry to the exit.
abbrev pub overlapping_rules : List Rule
overlapping_rules = rule (A ∷ B ∷ []) (X ∷ []) ∷ rule (B ∷ C ∷ []) (Y ∷ []) ∷ []

abbrev pub three_arcs : QGraph
three_arcs = line_graph 1 (leaf A ∷ leaf B ∷ leaf C ∷ []) 2

abbrev pub overlapping_closure : Stage
overlapping_closure = record {
  graph = record { nodes = 4; arcs = arc 1 A 3 ∷ arc 3 B 4 ∷ arc 4 C 2 ∷ arc 1 X 4 ∷ arc 3 Y 2 ∷ [] };
  done = done 0 (0 ∷ 1 ∷ []) 3 1 ∷ done 1 (1 ∷ 2 ∷ []) 4 1 ∷ [];
}

-- A graph without nodes and arcs.
abbrev pub nothing : QGraph
nothing = record { nodes = 0; arcs = [] }
