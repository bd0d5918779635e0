-- The outcome of a cascade: the text that is written for it, and how it ends. The chaining is Colmerauer's (1970), the
-- text this project's own.
use Rattle.std.specs.Prelude.{◌≡◌, ◌≤◌, ◌<◌, ℕ, List, [], ◌∷◌, ◌++◌, length, map, Option, Some, None}
use Rattle.qs_tree.specs.declared.cell.Label.{Label}
use Rattle.qs_graph.specs.Graphs.{QGraph}
use Rattle.qs_canon.specs.Rounds.{Stage, Closes}
use Rattle.qs_clean.specs.Cleaning.{Cleans}
use Rattle.qs_clean.specs.Cascades.{Cascade, Left, a_graph, no_arc, over, Ending}
use Rattle.qs_deck.specs.Decks.{Grammar}
use Rattle.qs_telling.specs.Texts.{graph_block, empty_block, limit_block}

-- The block that is written behind a grammar with this name, by what it leaves.
abbrev pub block : ℕ → List (List ℕ) → Label → Left → List ℕ
block limit names name (a_graph firings graph) = graph_block names name firings graph
block limit names name (no_arc firings) = empty_block names name firings
block limit names name over = limit_block names name limit

-- The blocks of the grammars that were run, in order.
abbrev pub blocks : ℕ → List (List ℕ) → List Grammar → List Left → List ℕ
blocks limit names [] lefts = []
blocks limit names (grammar ∷ grammars) [] = []
blocks limit names (grammar ∷ grammars) (left ∷ lefts) =
    block limit names grammar.name left ++ blocks limit names grammars lefts

-- The graph that is left behind all of these, where the first was run on this graph: the graph itself where there is
-- none, and no graph where a grammar left none.
abbrev pub last_graph : QGraph → List Left → Option QGraph
last_graph G [] = Some G
last_graph G (a_graph firings H ∷ lefts) = last_graph H lefts
last_graph G (no_arc firings ∷ lefts) = None
last_graph G (over ∷ lefts) = None

-- This text is written for the cascade of these grammars from the graph, and the cascade ends so.
pub record IsOutcome (limit : ℕ) (names : List (List ℕ)) (graph : QGraph) (grammars : List Grammar) (text : List ℕ)
    (ending : Ending) : Type 0 where
  pub lefts : List Left
  pub cascade : Cascade limit graph (map (λ grammar. grammar.rules) grammars) lefts ending
  pub text_is : text ≡ blocks limit names grammars lefts

-- This text is the first blocks of the outcome of the cascade of these grammars from a graph: a whole number of them,
-- fewer than all, possibly none. A grammar that is run has a block, so there is one more as long as a grammar is left.
pub data BeginsOutcome (L : ℕ) (names : List (List ℕ)) : QGraph → List Grammar → List ℕ → Type 0 where
  no_block : {G : QGraph} {grammar : Grammar} {grammars : List Grammar}
      → BeginsOutcome L names G (grammar ∷ grammars) []
  block_first : {G H : QGraph} {grammar : Grammar} {grammars : List Grammar} {C : Stage} {rest : List ℕ}
      → Closes grammar.rules G C → length C.done ≤ L → Cleans C H → 0 < length H.arcs
      → BeginsOutcome L names H grammars rest
      → BeginsOutcome L names G (grammar ∷ grammars) (graph_block names grammar.name (length C.done) H ++ rest)
