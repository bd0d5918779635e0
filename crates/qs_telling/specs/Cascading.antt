-- Grammars whose rules are accepted.
use Rattle.std.specs.Prelude.{List}
use Rattle.qs_tree.specs.Lists.{◌∈◌}
use Rattle.qs_pattern.specs.Rules.{Rule, IsAccepted}
use Rattle.qs_deck.specs.Decks.{Grammar}

-- The rules of these grammars are accepted.
abbrev pub AreAccepted : List Grammar → Type 0
AreAccepted grammars = (grammar : Grammar) → grammar ∈ grammars → (rule : Rule) → rule ∈ grammar.rules → IsAccepted rule
