-- Small grammars of unique rules, which merge equal arcs, with their closures worked out.
use Rattle.std.specs.Prelude.{ℕ, Bool, true, false, List, [], ◌∷◌, None}
use Rattle.qs_tree.specs.declared.cell.Label.{Label}
use Rattle.qs_tree.specs.Trees.{node}
use Rattle.qs_pattern.specs.declared.pattern.Head.TheVariants as head
use Rattle.qs_pattern.specs.Patterns.{Patterns, no_pattern, node_first}
use Rattle.qs_pattern.specs.Rules.{Rule}
use Rattle.qs_graph.specs.Graphs.{Arc, QGraph}
use Rattle.qs_canon.specs.Rounds.{Done, Stage}

-- Three labels.
abbrev pub A : Label
A = record { 0 = 0 }

abbrev pub B : Label
B = record { 0 = 1 }

abbrev pub C : Label
C = record { 0 = 2 }

-- The unique rule that adds, beside an arc with the one label, arcs with the others.
abbrev pub side : List Label → Patterns
side [] = no_pattern
side (l ∷ ls) = node_first (head.Label l) no_pattern (side ls)

abbrev pub rule : Label → List Label → Rule
rule l right = record { left = side (l ∷ []); right = side right; condition = None; unique = true }

-- An arc, and a firing that is done: of the rule with this number on this arc.
abbrev pub arc : ℕ → Label → ℕ → Arc
arc a l b = record { from = a; to = b; tree = node l [] }

abbrev pub done : ℕ → ℕ → ℕ → ℕ → Bool → Done
done r k first round met =
    record { firing = record { rule = r; path = k ∷ []; values = [] }; first = first; round = round; met = met }

-- One arc A.
abbrev pub one_arc : QGraph
one_arc = record { nodes = 2; arcs = arc 1 A 2 ∷ [] }

-- A == A: the firing meets its own arc, and nothing is added.
abbrev pub itself : List Rule
itself = rule A (A ∷ []) ∷ []

abbrev pub itself_closure : Stage
itself_closure = record { graph = one_arc; done = done 0 0 0 1 true ∷ [] }

-- A == B twice: the second firing meets what the first one added, and both are done.
abbrev pub twice : List Rule
twice = rule A (B ∷ []) ∷ rule A (B ∷ []) ∷ []

abbrev pub twice_closure : Stage
twice_closure = record {
  graph = record { nodes = 2; arcs = arc 1 A 2 ∷ arc 1 B 2 ∷ [] };
  done = done 0 0 1 1 false ∷ done 1 0 1 1 true ∷ [];
}

-- A == B + C twice: with several trees no arc is met, and each firing adds its own.
abbrev pub several : List Rule
several = rule A (B ∷ C ∷ []) ∷ rule A (B ∷ C ∷ []) ∷ []

abbrev pub several_closure : Stage
several_closure = record {
  graph = record { nodes = 4; arcs = arc 1 A 2 ∷ arc 1 B 3 ∷ arc 3 C 2 ∷ arc 1 B 4 ∷ arc 4 C 2 ∷ [] };
  done = done 0 0 1 1 false ∷ done 1 0 3 1 false ∷ [];
}

-- A == B where B stands twice at the start: the least B is met, and the equal arcs of the start stay.
abbrev pub at_start : List Rule
at_start = rule A (B ∷ []) ∷ []

abbrev pub equal_arcs : QGraph
equal_arcs = record { nodes = 2; arcs = arc 1 B 2 ∷ arc 1 B 2 ∷ arc 1 A 2 ∷ [] }

abbrev pub at_start_closure : Stage
at_start_closure = record { graph = equal_arcs; done = done 0 2 0 1 true ∷ [] }

-- A == B with B == A: rules that lead round in a circle close, since B == A meets the arc of the start.
abbrev pub circle : List Rule
circle = rule A (B ∷ []) ∷ rule B (A ∷ []) ∷ []

abbrev pub circle_closure : Stage
circle_closure = record {
  graph = record { nodes = 2; arcs = arc 1 A 2 ∷ arc 1 B 2 ∷ [] };
  done = done 0 0 1 1 false ∷ done 1 1 0 2 true ∷ [];
}

-- A == B with C == B on an arc A beside an arc C: the second firing meets what the first one added.
abbrev pub either : List Rule
either = rule A (B ∷ []) ∷ rule C (B ∷ []) ∷ []

abbrev pub two_arcs : QGraph
two_arcs = record { nodes = 2; arcs = arc 1 A 2 ∷ arc 1 C 2 ∷ [] }

abbrev pub either_closure : Stage
either_closure = record {
  graph = record { nodes = 2; arcs = arc 1 A 2 ∷ arc 1 C 2 ∷ arc 1 B 2 ∷ [] };
  done = done 0 0 2 1 false ∷ done 1 1 2 1 true ∷ [];
}
