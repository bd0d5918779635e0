-- Patterns. Colmerauer's patterns are trees in which labels, subtrees and lists of subtrees may be variables.
use Rattle.std.specs.Prelude.{ℕ, ◌+◌, List, [], ◌∷◌, ◌++◌}
use Rattle.qs_pattern.specs.declared.variable.Var.{Var}
use Rattle.qs_pattern.specs.declared.pattern.Head.{Head}
use Rattle.qs_pattern.specs.declared.pattern.Head.TheVariants as head
use Rattle.qs_pattern.specs.declared.pattern.Pattern.{Pattern, Node', Tree, Forest, Row_of-Pattern, end_of-Pattern}
use Rattle.qs_pattern.specs.declared.pattern.Pattern.{more_of-Pattern}
use Rattle.qs_pattern.specs.Variables.{IsLabelVar, IsTreeVar, IsForestVar}

-- A list of patterns: no pattern; or first a node by its head and the patterns of its subtrees, or a tree variable, or
-- a forest variable, and then the patterns behind it. (The code's type keeps its lists in memory of their own. Two
-- patterns are equal where this is equal, wherever they lie.)
pub data Patterns : Type 0 where
  no_pattern : Patterns
  node_first : (head : Head) (kids : Patterns) (behind : Patterns) → Patterns
  tree_var_first : (var : Var) (behind : Patterns) → Patterns
  forest_var_first : (var : Var) (behind : Patterns) → Patterns

-- The patterns of the code as such a list.
abbrev mutual
  pub pattern_before : Pattern → Patterns → Patterns
  pattern_before (Node' h shape kids) behind = node_first h (row_patterns kids) behind
  pattern_before (Tree v) behind = tree_var_first v behind
  pattern_before (Forest v) behind = forest_var_first v behind

  pub row_patterns : {m : _} → Row_of-Pattern m → Patterns
  row_patterns end_of-Pattern = no_pattern
  row_patterns (more_of-Pattern p row) = pattern_before p (row_patterns row)

abbrev pub patterns : List Pattern → Patterns
patterns [] = no_pattern
patterns (p ∷ ps) = pattern_before p (patterns ps)

-- How many patterns the list has, those inside nodes left aside.
abbrev pub count : Patterns → ℕ
count no_pattern = 0
count (node_first h kids behind) = count behind + 1
count (tree_var_first v behind) = count behind + 1
count (forest_var_first v behind) = count behind + 1

-- How many labels and variables are written in the patterns.
abbrev pub cells : Patterns → ℕ
cells no_pattern = 0
cells (node_first h kids behind) = cells kids + cells behind + 1
cells (tree_var_first v behind) = cells behind + 1
cells (forest_var_first v behind) = cells behind + 1

-- The variables of the patterns in the order in which they are written, with repetitions.
abbrev pub head_variables : Head → List Var
head_variables (head.Label l) = []
head_variables (head.Var v) = v ∷ []

abbrev pub variables_in : Patterns → List Var
variables_in no_pattern = []
variables_in (node_first h kids behind) = head_variables h ++ (variables_in kids ++ variables_in behind)
variables_in (tree_var_first v behind) = v ∷ variables_in behind
variables_in (forest_var_first v behind) = v ∷ variables_in behind

-- Each variable stands at a place of its class: a head is a label variable, a tree variable and a forest variable stand
-- for themselves, at every depth.
abbrev pub IsHeadInClass : Head → Type 0
IsHeadInClass (head.Label l) = Unit {0}
IsHeadInClass (head.Var v) = IsLabelVar v

abbrev pub AreInClass : Patterns → Type 0
AreInClass no_pattern = Unit {0}
AreInClass (node_first h kids behind) = IsHeadInClass h × AreInClass kids × AreInClass behind
AreInClass (tree_var_first v behind) = IsTreeVar v × AreInClass behind
AreInClass (forest_var_first v behind) = IsForestVar v × AreInClass behind

-- No forest variable stands at the top: each pattern of the list stands for one tree.
abbrev pub NoForestAtTop : Patterns → Type 0
NoForestAtTop no_pattern = Unit {0}
NoForestAtTop (node_first h kids behind) = NoForestAtTop behind
NoForestAtTop (tree_var_first v behind) = NoForestAtTop behind
NoForestAtTop (forest_var_first v behind) = ⊥
