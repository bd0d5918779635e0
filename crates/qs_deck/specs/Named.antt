-- Labels that are among the first n, which are those that n names name.
use Rattle.std.specs.Prelude.{ℕ, ◌<◌, List}
use Rattle.qs_tree.specs.Lists.{◌∈◌}
use Rattle.qs_tree.specs.declared.cell.Label.{Label}
use Rattle.qs_pattern.specs.Rules.{Rule}
use Rattle.qs_pattern.specs.Named.{ArePatternsNamed, IsNamedIfGiven}
use Rattle.qs_deck.specs.declared.system.System.{System}

-- Each label in this rule is one of the first n.
pub record IsRuleNamed (n : ℕ) (rule : Rule) : Type 0 where
  pub left : ArePatternsNamed n rule.left
  pub right : ArePatternsNamed n rule.right
  pub condition : IsNamedIfGiven n rule.condition

-- The name of this system and each label in its rules is one of the first n.
pub record IsSystemNamed (n : ℕ) (system : System) : Type 0 where
  pub name : system.name.0 < n
  pub rules : (rule : Rule) → rule ∈ system.rules.items → IsRuleNamed n rule

abbrev pub AreSystemsNamed : ℕ → List System → Type 0
AreSystemsNamed n systems = (system : System) → system ∈ systems → IsSystemNamed n system

-- Each label in these lines is one of the first n.
abbrev pub AreLinesNamed : ℕ → List (List Label) → Type 0
AreLinesNamed n lines = (line : List Label) → line ∈ lines → (label : Label) → label ∈ line → label.0 < n
