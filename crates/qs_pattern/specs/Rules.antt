-- Rules, and which of them are accepted.
use Rattle.std.specs.Prelude.{◌≡◌, ℕ, ◌+◌, ◌≤◌, Bool, true, ◌&&◌, List, [], ◌∷◌, ◌++◌, length, Option, Some, None}
use Rattle.qs_tree.specs.Lists.{◌∈◌}
use Rattle.qs_pattern.specs.declared.variable.Var.{Var}
use Rattle.qs_pattern.specs.Variables.{firsts}
use Rattle.qs_pattern.specs.Patterns.{Patterns, count, cells, variables_in, AreInClass, NoForestAtTop}
use Rattle.qs_pattern.specs.Limits.{most_patterns, most_cells, most_variables}
use Rattle.qs_pattern.specs.Conditions.{Condition, condition_cells, condition_variables, IsConditionInClass}
use Rattle.qs_pattern.specs.Conditions.{HasEnoughMembers}

-- A rule adds, beside a path of trees that its left side stands for, a path of the trees that its right side stands
-- for, where its condition holds. It is marked unique or isn't. In a grammar whose rules are all unique, a firing with
-- one right tree whose arc already stands adds none (this project's own).
pub record Rule : Type 0 where
  pub left : Patterns
  pub right : Patterns
  pub condition : Option Condition
  pub unique : Bool

-- What a rule is without the mark, as it stands in a text.
pub record UnmarkedRule : Type 0 where
  pub left : Patterns
  pub right : Patterns
  pub condition : Option Condition

abbrev pub unmarked : Rule → UnmarkedRule
unmarked rule = record { left = rule.left; right = rule.right; condition = rule.condition }

-- The rule with the mark, or without it.
abbrev pub marked : Bool → UnmarkedRule → Rule
marked unique rule = record { left = rule.left; right = rule.right; condition = rule.condition; unique = unique }

-- Each of the rules is marked unique; and whether it is so.
abbrev pub IsUnique : List Rule → Type 0
IsUnique rules = (rule : Rule) → rule ∈ rules → rule.unique ≡ true

abbrev pub all_unique : List Rule → Bool
all_unique [] = true
all_unique (rule ∷ rules) = rule.unique && all_unique rules

-- What is asked of a condition is asked of a rule that has one.
abbrev pub cells_if_given : Option Condition → ℕ
cells_if_given None = 0
cells_if_given (Some c) = condition_cells c

abbrev pub variables_if_given : Option Condition → List Var
variables_if_given None = []
variables_if_given (Some c) = condition_variables c

abbrev pub IsInClassIfGiven : Option Condition → Type 0
IsInClassIfGiven None = Unit {0}
IsInClassIfGiven (Some c) = IsConditionInClass c

abbrev pub HasEnoughMembersIfGiven : Option Condition → Type 0
HasEnoughMembersIfGiven None = Unit {0}
HasEnoughMembersIfGiven (Some c) = HasEnoughMembers c

-- The variables of the right side and of the condition in text order, with repetitions.
abbrev pub variables_behind : UnmarkedRule → List Var
variables_behind rule = variables_in rule.right ++ variables_if_given rule.condition

-- The variables of the whole rule in text order, with repetitions.
abbrev pub rule_variables : UnmarkedRule → List Var
rule_variables rule = variables_in rule.left ++ variables_behind rule

-- How many labels and variables are written in the rule.
abbrev pub rule_cells : UnmarkedRule → ℕ
rule_cells rule = cells rule.left + cells rule.right + cells_if_given rule.condition

-- A side has 1 to `most_patterns` patterns, none of which is a forest variable,
-- with each variable at a place of its class.
pub record IsSide (side : Patterns) : Type 0 where
  pub some : 1 ≤ count side
  pub at_most : count side ≤ most_patterns
  pub no_forest_at_top : NoForestAtTop side
  pub in_class : AreInClass side

-- A rule can be accepted that has two such sides, a condition in class that joins at least two wherever it joins, at
-- most `most_cells` labels and variables, at most `most_variables` different variables, and each variable of whose
-- right side and condition occurs in its left side.
pub record IsAcceptable (rule : UnmarkedRule) : Type 0 where
  pub left : IsSide rule.left
  pub right : IsSide rule.right
  pub condition : IsInClassIfGiven rule.condition
  pub members : HasEnoughMembersIfGiven rule.condition
  pub cells : rule_cells rule ≤ most_cells
  pub variables : length (firsts (rule_variables rule)) ≤ most_variables
  pub bound : (v : Var) → v ∈ variables_behind rule → v ∈ variables_in rule.left

-- An accepted rule is such a one, marked or not.
abbrev pub IsAccepted : Rule → Type 0
IsAccepted rule = IsAcceptable (unmarked rule)

-- In the left side of each of these rules every variable stands at a place of its class, as it does in accepted rules.
abbrev pub AreLeftSidesInClass : List Rule → Type 0
AreLeftSidesInClass rules = (rule : Rule) → rule ∈ rules → AreInClass rule.left
