-- Grammars and decks as they are read, before they are checked. Grammars and decks are Colmerauer's (1970); the places
-- are this project's own.
use Rattle.std.specs.Prelude.{ℕ, Bool, List}
use Rattle.std.specs.List.{flat_map}
use Rattle.qs_tree.specs.declared.cell.Label.{Label}
use Rattle.qs_ruletext.specs.WrittenRules.{WrittenRule}
use Rattle.qs_graphtext.specs.WrittenChains.{WrittenChain}

-- A grammar as it was read: the byte of the text at which its word -SYSTEME- begins, its name, whether it is marked
-- with the word -UNIQUE-, and its rules, which may or may not be accepted.
pub record WrittenSystem : Type 0 where
  pub at : ℕ
  pub name : Label
  pub unique : Bool
  pub rules : List WrittenRule

-- A deck as it was read: its grammars, of which there may be too many, the byte at which the word -GRAPHE- begins, and
-- its chains, which may or may not make a graph.
pub record WrittenDeck : Type 0 where
  pub systems : List WrittenSystem
  pub graph_at : ℕ
  pub chains : List WrittenChain

-- The rules of these systems, in the order of the text.
abbrev pub rules_of : List WrittenSystem → List WrittenRule
rules_of systems = flat_map (λ system. system.rules) systems
