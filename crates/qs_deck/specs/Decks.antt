-- Accepted decks: the grammars and the graph that a text means.
use Rattle.std.specs.Prelude.{◌≡◌, ℕ, Bool, List, [], ◌++◌, map}
use Rattle.std.specs.Str.{IsUtf8}
use Rattle.qs_lex.specs.declared.token.Token.{Token}
use Rattle.qs_lex.specs.Tokens.{version_of, AreTokensOf}
use Rattle.qs_lex.specs.Nesting.{IsTooDeep}
use Rattle.qs_tree.specs.declared.cell.Label.{Label}
use Rattle.qs_pattern.specs.Rules.{Rule, marked}
use Rattle.qs_ruletext.specs.WrittenRules.{WrittenRule}
use Rattle.qs_reader.specs.Names.{NamesGrow}
use Rattle.qs_graph.specs.Graphs.{QGraph, IsValid}
use Rattle.qs_graphtext.specs.GraphOfChains.{AreFew, graph_of}
use Rattle.qs_deck.specs.WrittenDecks.{WrittenSystem, WrittenDeck}
use Rattle.qs_deck.specs.declared.system.System.{System}
use Rattle.qs_deck.specs.Versions.{IsVersionLine}
use Rattle.qs_deck.specs.Reading.{ReadsDeck}
use Rattle.qs_deck.specs.Checks.{IsChecked}

-- A grammar is a name and a list of rules. It is marked, so that it merges equal arcs, or isn't.
pub record Grammar : Type 0 where
  pub name : Label
  pub unique : Bool
  pub rules : List Rule

-- The rule that a written one means, in a grammar that is marked or isn't.
abbrev pub rule_of : Bool → WrittenRule → Rule
rule_of unique written = marked unique written.rule

-- The grammar that a system is, and the grammar that a written one means, whose rules have its mark.
abbrev pub grammar_of : System → Grammar
grammar_of system = record { name = system.name; unique = system.unique; rules = system.rules.items }

abbrev pub meaning_of : WrittenSystem → Grammar
meaning_of system = record {
  name = system.name;
  unique = system.unique;
  rules = map (rule_of system.unique) system.rules;
}

-- The text is UTF-8, these are its tokens, and at most 1,000 parentheses are open at a time.
pub record HasTokens (text : List ℕ) (tokens : List Token) : Type 0 where
  pub utf8 : IsUtf8 text
  pub are_tokens : AreTokensOf text tokens
  pub shallow : (index : ℕ) → IsTooDeep tokens index → ⊥

-- The text is of this version and has these tokens, and they are the line of the version and then this written deck.
-- Its names are the texts of its labels, each once, in the order in which they occur first.
pub record IsWritten (text : List ℕ) (version : ℕ) (names : List (List ℕ)) (deck : WrittenDeck) : Type 0 where
  pub version_is : version ≡ version_of text
  pub tokens : List Token
  pub has_tokens : HasTokens text tokens
  pub front : List Token
  pub body : List Token
  pub are : tokens ≡ front ++ body
  pub in_front : IsVersionLine text version front
  pub reads : ReadsDeck names text body deck []
  pub names_are : NamesGrow text body [] names

-- The text is accepted, and means these grammars and this graph, in a deck of this version with these names for the
-- labels: it is a written deck that passes the checks, and whose chains make a valid graph of at most 65,536 arcs.
pub record IsDeckOf (text : List ℕ) (version : ℕ) (names : List (List ℕ)) (grammars : List Grammar) (graph : QGraph)
    : Type 0 where
  pub written : WrittenDeck
  pub is_written : IsWritten text version names written
  pub checked : IsChecked written.systems
  pub few : AreFew written.chains
  pub valid : IsValid graph
  pub grammars_are : grammars ≡ map meaning_of written.systems
  pub graph_is : graph ≡ graph_of written.chains
