-- The firings of one rule on one path.
use Rattle.std.specs.Prelude.{ℕ, ◌≡◌, List}
use Rattle.qs_tree.specs.Lists.{◌∈◌}
use Rattle.qs_pattern.specs.Substitutions.{Substitution}
use Rattle.qs_pattern.specs.Conditions.{HoldsIfGiven}
use Rattle.qs_pattern.specs.Rules.{Rule}
use Rattle.qs_firing.specs.Firings.{Firing}

-- f has this rule's number, this path, and one of these substitutions, under which the rule's condition holds.
pub record HasValues (number : ℕ) (rule : Rule) (path : List ℕ) (substitutions : List Substitution) (f : Firing)
    : Type 0 where
  pub rule_is : f.rule ≡ number
  pub path_is : f.path ≡ path
  pub among : f.values ∈ substitutions
  pub holds : HoldsIfGiven rule.condition f.values
