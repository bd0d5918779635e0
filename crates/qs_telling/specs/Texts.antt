-- The texts that the program writes beside decks and graphs. Their spelling is this project's own. A line ends with one
-- line feed.
use Rattle.std.specs.Prelude.{ℕ, List, ◌++◌, codes, decimal}
use Rattle.qs_tree.specs.declared.cell.Label.{Label}
use Rattle.qs_tree.specs.Text.{name_of, label_text}
use Rattle.qs_graph.specs.Graphs.{QGraph}
use Rattle.qs_lex.specs.declared.refusal.Refusal.{Refusal}
use Rattle.qs_lex.specs.Refusals.{cause_name}
use Rattle.qs_graphtext.specs.Texts.{line, graph_text}

-- The first line of a block names the grammar: `# S`
abbrev pub title_line : List (List ℕ) → Label → List ℕ
title_line names name = line (codes "# " ++ label_text (name_of names name))

-- Behind a closure it has the number of the firings too: `# S 3`
abbrev pub counted_line : List (List ℕ) → Label → ℕ → List ℕ
counted_line names name firings =
    line (codes "# " ++ (label_text (name_of names name) ++ (codes " " ++ decimal firings)))

-- The block of a grammar that leaves a graph.
abbrev pub graph_block : List (List ℕ) → Label → ℕ → QGraph → List ℕ
graph_block names name firings graph = counted_line names name firings ++ graph_text names graph

-- The block of a grammar that leaves no arc: its second line is `-VIDE-.`
abbrev pub empty_block : List (List ℕ) → Label → ℕ → List ℕ
empty_block names name firings = counted_line names name firings ++ line (codes "-VIDE-.")

-- The line that tells that the limit was met: `-LIMITE- 5.`
abbrev pub limit_line : ℕ → List ℕ
limit_line limit = line (codes "-LIMITE- " ++ (decimal limit ++ codes "."))

-- The block of a grammar that needs more firings than the limit has this line as its second.
abbrev pub limit_block : List (List ℕ) → Label → ℕ → List ℕ
limit_block names name limit = title_line names name ++ limit_line limit

-- How many firings were done, and how many arcs are left, at the end of a line.
abbrev pub counts_text : ℕ → ℕ → List ℕ
counts_text firings arcs = decimal firings ++ (codes " " ++ (decimal arcs ++ codes "."))

-- The summary of a made deck has its size, the number of its words, how many firings were done, and how many arcs are
-- left: `-FAIT- 3 8 13 1.`
abbrev pub summary_line : ℕ → ℕ → ℕ → ℕ → List ℕ
summary_line size words firings arcs =
    line (codes "-FAIT- "
    ++ (decimal size ++ (codes " " ++ (decimal words ++ (codes " " ++ counts_text firings arcs)))))

-- What is written for a text that is refused: `-REFUS- 2 3 BadCharacter.`
abbrev pub refusal_line : Refusal → List ℕ
refusal_line refusal =
    line (codes "-REFUS- " ++ (decimal refusal.line
    ++ (codes " " ++ (decimal refusal.column ++ (codes " " ++ (cause_name refusal.cause ++ codes "."))))))
