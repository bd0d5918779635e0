-- The text of a deck: in version 2 the line `-VERSION- 2.`; then for each grammar the line `-SYSTEME- S.`, or
-- `-SYSTEME- S -UNIQUE-.` where it is marked, and a line for each rule; then the graph. This spelling is this project's
-- own.
use Rattle.std.specs.Prelude.{ℕ, Bool, ◌==◌, if◌then◌else◌, List, [], ◌++◌, flat_map, codes}
use Rattle.qs_tree.specs.Text.{name_of, label_text}
use Rattle.qs_pattern.specs.Rules.{Rule}
use Rattle.qs_graph.specs.Graphs.{QGraph}
use Rattle.qs_ruletext.specs.Texts.{rule_text}
use Rattle.qs_graphtext.specs.Texts.{line, graph_text}
use Rattle.qs_deck.specs.Decks.{Grammar}

-- A rule: `A + B(U*) == C(U*).` Its mark is written with the name of its grammar.
abbrev pub rule_line : List (List ℕ) → Rule → List ℕ
rule_line names rule = line (rule_text names rule.left rule.right rule.condition)

abbrev pub mark_text : Bool → List ℕ
mark_text unique = if unique then codes " -UNIQUE-" else []

abbrev pub grammar_text : List (List ℕ) → Grammar → List ℕ
grammar_text names grammar =
    line (codes "-SYSTEME- " ++ (label_text (name_of names grammar.name) ++ (mark_text grammar.unique ++ codes ".")))
    ++ flat_map (rule_line names) grammar.rules

abbrev pub version_text : ℕ → List ℕ
version_text version = if version == 2 then line (codes "-VERSION- 2.") else []

abbrev pub deck_text : ℕ → List (List ℕ) → List Grammar → QGraph → List ℕ
deck_text version names grammars graph =
    version_text version ++ (flat_map (grammar_text names) grammars ++ graph_text names graph)
