-- How a line of words ends behind its grammars, as the code has it and as the definitions have it.
use Rattle.std.specs.Prelude.{ℕ, Bool, if◌then◌else◌, List, [], ◌++◌, Option, Some, None, codes}
use Rattle.qs_tree.specs.Trees.{Tree}
use Rattle.qs_tree.specs.Text.{tree_text}
use Rattle.qs_graph.specs.Graphs.{QGraph}
use Rattle.qs_graphtext.specs.Texts.{AreArcsNamed}
use Rattle.qs_deck.specs.Decks.{Grammar}
use Rattle.qs_telling.specs.declared.phrasing.LineEnd.{LineEnd}
use Rattle.qs_telling.specs.declared.phrasing.LineEnd.TheVariants as end
use Rattle.qs_telling.specs.PhraseTexts.{EndsWith, TellsLast}
use Rattle.qs_telling.specs.Phrasing.{ending_in}

-- The graph that is left, where one is.
abbrev pub graph_in : LineEnd → Option QGraph
graph_in (end.Left graph) = Some graph
graph_in end.Empty = None
graph_in end.Over = None

-- The cascade of these grammars from the graph ends so.
abbrev pub IsLineEnd : ℕ → List Grammar → QGraph → LineEnd → Type 0
IsLineEnd limit grammars graph e = EndsWith limit grammars graph (ending_in e) (graph_in e)

-- Each label in a graph that is left is one of the first n.
abbrev pub IsLineEndNamed : ℕ → LineEnd → Type 0
IsLineEndNamed n (end.Left graph) = AreArcsNamed n graph.arcs
IsLineEndNamed n end.Empty = Unit {0}
IsLineEndNamed n end.Over = Unit {0}

-- A tree of a reading: behind a space, where others stand before it.
abbrev pub next_tree : List (List ℕ) → Bool → Tree → List ℕ
next_tree names behind t = (if behind then codes " " else []) ++ tree_text names t

-- What is told of a line that ends so.
abbrev pub TellsEnd : ℕ → ℕ → List (List ℕ) → LineEnd → List ℕ → Type 0
TellsEnd limit most names e text = TellsLast limit most names (ending_in e) (graph_in e) text
