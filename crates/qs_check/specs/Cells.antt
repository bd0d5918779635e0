-- The cells of a rule: its labels and variables as they are written, in the order of the text. (This project.)
use Rattle.std.specs.Prelude.{List, [], ◌∷◌, ◌++◌, Option, Some, None}
use Rattle.std.specs.List.{flat_map}
use Rattle.qs_pattern.specs.declared.variable.Var.{Var}
use Rattle.qs_pattern.specs.declared.pattern.Head.{Head}
use Rattle.qs_pattern.specs.declared.pattern.Head.TheVariants as head
use Rattle.qs_pattern.specs.Patterns.{Patterns, no_pattern, node_first, tree_var_first, forest_var_first}
use Rattle.qs_pattern.specs.Patterns.{head_variables}
use Rattle.qs_pattern.specs.Conditions.{Condition, over_lists}
use Rattle.qs_pattern.specs.Rules.{UnmarkedRule}

-- A cell is what a head can be, a label or a variable. The cells of a node are its head and then those of the patterns
-- below it.
abbrev pub written : Patterns → List Head
written no_pattern = []
written (node_first h kids behind) = h ∷ (written kids ++ written behind)
written (tree_var_first v behind) = head.Var v ∷ written behind
written (forest_var_first v behind) = head.Var v ∷ written behind

-- Those of a condition: of each comparison the first list's and then the second's, comparison by comparison.
abbrev pub written_condition : Condition → List Head
written_condition c = over_lists [] (λ hs gs. hs ++ gs) written c

abbrev pub written_if_given : Option Condition → List Head
written_if_given None = []
written_if_given (Some c) = written_condition c

-- Those of a rule: of the left side, of the right side, and of the condition.
abbrev pub written_rule : UnmarkedRule → List Head
written_rule rule = written rule.left ++ (written rule.right ++ written_if_given rule.condition)

-- The variables among cells, in order, with repetitions.
abbrev pub variables_among : List Head → List Var
variables_among cells = flat_map head_variables cells
