-- What is told of lines of words: the readings of what is left of each. Its spelling is this project's own.
use Rattle.std.specs.Prelude.{◌≡◌, ◌↔◌, ℕ, ◌+◌, Bool, true, false, IsTrue, List, [], ◌∷◌, ◌++◌, Option, Some, None}
use Rattle.std.specs.Prelude.{map, flat_map, codes, decimal}
use Rattle.qs_tree.specs.declared.cell.Label.{Label}
use Rattle.qs_tree.specs.Text.{tree_text}
use Rattle.qs_graph.specs.Graphs.{Arc, QGraph, trees_on}
use Rattle.qs_ruletext.specs.Texts.{joined}
use Rattle.qs_graphtext.specs.Texts.{line}
use Rattle.qs_clean.specs.Cascades.{Cascade, Left, Ending, all_done, by_limit}
use Rattle.qs_phrase.specs.Words.{graph_of_words}
use Rattle.qs_phrase.specs.Readings.{AreFirst, HasFurther}
use Rattle.qs_deck.specs.Decks.{Grammar}
use Rattle.qs_telling.specs.Texts.{limit_line}
use Rattle.qs_telling.specs.Outcomes.{last_graph}

-- The first line of the block of a line of words has its number among those with words, from 1: `# PHRASE 1`
abbrev pub phrase_line : ℕ → List ℕ
phrase_line k = line (codes "# PHRASE " ++ decimal k)

-- A reading: its trees, with one space between two.
abbrev pub reading_line : List (List ℕ) → List Arc → List ℕ → List ℕ
reading_line names arcs path = line (joined (codes " ") (map (tree_text names) (trees_on arcs path)))

-- Behind the readings that are told, where there are more: `-SUITE-.`
abbrev pub more_line : Bool → List ℕ
more_line true = line (codes "-SUITE-.")
more_line false = []

-- The first readings of the graph, at most this many, each on its line, and whether there are more.
pub record TellsReadings (most : ℕ) (names : List (List ℕ)) (G : QGraph) (text : List ℕ) : Type 0 where
  pub paths : List (List ℕ)
  pub are_first : AreFirst G most paths
  pub more : Bool
  pub more_is : IsTrue more ↔ HasFurther G paths
  pub text_is : text ≡ flat_map (reading_line names G.arcs) paths ++ more_line more

-- The cascade of these grammars from a graph ends so, and the last of them leaves this graph, where it leaves one.
pub record EndsWith (limit : ℕ) (grammars : List Grammar) (graph : QGraph) (ending : Ending) (last : Option QGraph)
    : Type 0 where
  pub lefts : List Left
  pub cascade : Cascade limit graph (map (λ grammar. grammar.rules) grammars) lefts ending
  pub last_is : last_graph graph lefts ≡ last

-- What is told behind a cascade that ends so, by the graph that is left at last: its readings; or that none is left,
-- `-VIDE-.`; or that the limit was met.
abbrev pub TellsLast : ℕ → ℕ → List (List ℕ) → Ending → Option QGraph → List ℕ → Type 0
TellsLast limit most names all_done (Some G) text = TellsReadings most names G text
TellsLast limit most names all_done None text = text ≡ line (codes "-VIDE-.")
TellsLast limit most names by_limit last text = text ≡ limit_line limit

-- What is told of the cascade of these grammars from the graph of a line.
pub record TellsPhrase (limit most : ℕ) (names : List (List ℕ)) (grammars : List Grammar) (graph : QGraph)
    (text : List ℕ) (ending : Ending) : Type 0 where
  pub last : Option QGraph
  pub ends : EndsWith limit grammars graph ending last
  pub told : TellsLast limit most names ending last text

-- The limit was met in one of two.
abbrev pub either_by_limit : Ending → Ending → Ending
either_by_limit all_done ending = ending
either_by_limit by_limit ending = by_limit

-- The blocks of these lines of words, of which the first has this number. They end by the limit where one of them does.
pub data TellsPhrases (limit most : ℕ) (names : List (List ℕ)) (grammars : List Grammar)
    : ℕ → List (List Label) → List ℕ → Ending → Type 0 where
  no_line : {k : ℕ} → TellsPhrases limit most names grammars k [] [] all_done
  line_first : {k : ℕ} {words : List Label} {lines : List (List Label)} {text rest : List ℕ} {ending others : Ending}
      → TellsPhrase limit most names grammars (graph_of_words words) text ending
      → TellsPhrases limit most names grammars (k + 1) lines rest others
      → TellsPhrases limit most names grammars k (words ∷ lines) ((phrase_line k ++ text) ++ rest)
      (either_by_limit ending others)

-- The first of these blocks: a whole number of them, fewer than all, possibly none.
pub data BeginsPhrases (limit most : ℕ) (names : List (List ℕ)) (grammars : List Grammar)
    : ℕ → List (List Label) → List ℕ → Type 0 where
  no_block : {k : ℕ} {words : List Label} {lines : List (List Label)}
      → BeginsPhrases limit most names grammars k (words ∷ lines) []
  block_first : {k : ℕ} {words : List Label} {lines : List (List Label)} {text rest : List ℕ} {ending : Ending}
      → TellsPhrase limit most names grammars (graph_of_words words) text ending
      → BeginsPhrases limit most names grammars (k + 1) lines rest
      → BeginsPhrases limit most names grammars k (words ∷ lines) ((phrase_line k ++ text) ++ rest)
