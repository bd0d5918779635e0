-- The labels at the tops of rules. (This project.)
use Rattle.std.specs.Prelude.{◌==◌, Bool, true, false, if◌then◌else◌, List, [], ◌∷◌, ◌++◌}
use Rattle.qs_tree.specs.declared.cell.Label.{Label}
use Rattle.qs_pattern.specs.declared.pattern.Head.{Head}
use Rattle.qs_pattern.specs.declared.pattern.Head.TheVariants as head
use Rattle.qs_pattern.specs.Patterns.{Patterns, no_pattern, node_first, tree_var_first, forest_var_first}
use Rattle.qs_pattern.specs.Rules.{Rule}

-- The head is a label.
abbrev pub IsLabelHead : Head → Type 0
IsLabelHead (head.Label l) = Unit {0}
IsLabelHead (head.Var v) = ⊥

-- Every pattern at the top of the side, those inside nodes left aside, is a node with a label as head.
abbrev pub HasLabelsAtTop : Patterns → Type 0
HasLabelsAtTop no_pattern = Unit {0}
HasLabelsAtTop (node_first h kids behind) = IsLabelHead h × HasLabelsAtTop behind
HasLabelsAtTop (tree_var_first v behind) = ⊥
HasLabelsAtTop (forest_var_first v behind) = ⊥

-- The labels at the top of a side, in order: those that are heads of its nodes.
abbrev pub labels_of_head : Head → List Label
labels_of_head (head.Label l) = l ∷ []
labels_of_head (head.Var v) = []

abbrev pub top_labels : Patterns → List Label
top_labels no_pattern = []
top_labels (node_first h kids behind) = labels_of_head h ++ top_labels behind
top_labels (tree_var_first v behind) = top_labels behind
top_labels (forest_var_first v behind) = top_labels behind

-- The labels at the tops of a rule, those of its left side before those of its right side; and those of rules, rule
-- after rule.
abbrev pub rule_labels : Rule → List Label
rule_labels rule = top_labels rule.left ++ top_labels rule.right

abbrev pub labels_at_tops : List Rule → List Label
labels_at_tops [] = []
labels_at_tops (rule ∷ rules) = rule_labels rule ++ labels_at_tops rules

-- Whether the label stands in the list.
abbrev pub stands_in : Label → List Label → Bool
stands_in l [] = false
stands_in l (k ∷ ks) = if k.0 == l.0 then true else stands_in l ks

-- The list with a label behind it, unless the label stands in it.
abbrev pub with_label : List Label → Label → List Label
with_label ls l = if stands_in l ls then ls else ls ++ l ∷ []

-- The list with each of further labels behind it, once, where it first occurs, unless the label stands in it.
abbrev pub with_labels : List Label → List Label → List Label
with_labels ls [] = ls
with_labels ls (k ∷ ks) = with_labels (with_label ls k) ks

-- The labels of a list, each once, in order of first occurrence.
abbrev pub each_once : List Label → List Label
each_once ls = with_labels [] ls
