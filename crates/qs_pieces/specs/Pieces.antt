-- A cascade in two pieces: when its first grammars leave a graph, with which a cascade of the others can go on. This
-- project's own.
use Rattle.std.specs.Prelude.{◌≡◌, ◌<◌, ℕ, List, ◌++◌, length, map, Some}
use Rattle.qs_tree.specs.Lists.{◌∈◌}
use Rattle.qs_tree.specs.Names.{AreDistinct}
use Rattle.qs_pattern.specs.Rules.{Rule}
use Rattle.qs_graph.specs.Graphs.{QGraph, IsValid}
use Rattle.qs_graphtext.specs.Texts.{AreArcsNamed}
use Rattle.qs_clean.specs.Cascades.{Cascade, Left, Ending, all_done}
use Rattle.qs_deck.specs.Decks.{Grammar, IsDeckOf}
use Rattle.qs_deck.specs.Marks.{HaveMark}
use Rattle.qs_deck.specs.Named.{IsRuleNamed}
use Rattle.qs_deck.specs.Texts.{deck_text}
use Rattle.qs_telling.specs.Outcomes.{blocks, last_graph, IsOutcome}
use Rattle.qs_telling.specs.Cascading.{AreAccepted}

-- These grammars, run on the graph one behind the other, each leave a graph; this text is written for them, and the
-- last graph is left.
pub record Leaves (limit : ℕ) (names : List (List ℕ)) (graph : QGraph) (grammars : List Grammar) (text : List ℕ)
    (left : QGraph) : Type 0 where
  pub lefts : List Left
  pub cascade : Cascade limit graph (map (λ grammar. grammar.rules) grammars) lefts all_done
  pub last : last_graph graph lefts ≡ Some left
  pub text_is : text ≡ blocks limit names grammars lefts

-- The name of each of these grammars, and each label in its rules, is one of the first n.
abbrev pub AreGrammarsNamed : ℕ → List Grammar → Type 0
AreGrammarsNamed n grammars =
    (grammar : Grammar) → grammar ∈ grammars
    → (grammar.name.0 < n) × ((rule : Rule) → rule ∈ grammar.rules → IsRuleNamed n rule)

-- Each rule in these grammars has the mark of its grammar, or neither has it.
abbrev pub AreMarkedAlike : List Grammar → Type 0
AreMarkedAlike grammars = (grammar : Grammar) → grammar ∈ grammars → HaveMark grammar.unique grammar.rules

-- What is asked of a cascade that is run in two pieces, `front` and then `back`, with these names for labels: that the
-- rules are accepted and those of `back` have the marks of their grammars, the graph is valid, and each label has a
-- name, and that no two names are equal.
pub record CanBeCut (names : List (List ℕ)) (graph : QGraph) (front back : List Grammar) : Type 0 where
  pub names_differ : AreDistinct names
  pub accepted : AreAccepted (front ++ back)
  pub named : AreGrammarsNamed (length names) (front ++ back)
  pub marked_alike : AreMarkedAlike back
  pub valid : IsValid graph
  pub arcs_named : AreArcsNamed (length names) graph.arcs

-- Two pieces of a cascade from `graph`. The first piece is the grammars `front`: they leave the graph `left`, and
-- `first` is written for them. The second is the deck that is read from the text of the grammars `back` and of that
-- graph, in this version, which is accepted: it has names of its own, `others`, its grammars are `more` and its graph
-- is `read`; `second` is written for its cascade, which ends so. One limit is meant for both.
pub record TwoPieces : Type 0 where
  pub limit : ℕ
  pub version : ℕ
  pub names : List (List ℕ)
  pub graph : QGraph
  pub front : List Grammar
  pub back : List Grammar
  pub can_be_cut : CanBeCut names graph front back
  pub first : List ℕ
  pub left : QGraph
  pub leaves : Leaves limit names graph front first left
  pub others : List (List ℕ)
  pub more : List Grammar
  pub read : QGraph
  pub accepted : IsDeckOf (deck_text version names back left) version others more read
  pub second : List ℕ
  pub ending : Ending
  pub goes_on : IsOutcome limit others read more second ending
