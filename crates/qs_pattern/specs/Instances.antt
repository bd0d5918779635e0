-- Instances: the trees that patterns stand for under a substitution, and matches, the substitutions under which they
-- stand for given trees.
use Rattle.std.specs.Prelude.{◌≡◌, List, [], ◌∷◌, ◌++◌, Option, Some}
use Rattle.qs_tree.specs.Lists.{◌∈◌}
use Rattle.qs_tree.specs.declared.cell.Label.{Label}
use Rattle.qs_tree.specs.Trees.{Tree, node}
use Rattle.qs_pattern.specs.declared.variable.Var.{Var}
use Rattle.qs_pattern.specs.declared.pattern.Head.{Head}
use Rattle.qs_pattern.specs.declared.pattern.Head.TheVariants as head
use Rattle.qs_pattern.specs.declared.subst.Value.{Value}
use Rattle.qs_pattern.specs.declared.subst.Value.TheVariants as value
use Rattle.qs_pattern.specs.Variables.{firsts}
use Rattle.qs_pattern.specs.Patterns.{Patterns, no_pattern, node_first, tree_var_first, forest_var_first, variables_in}
use Rattle.qs_pattern.specs.Substitutions.{Substitution, variables_of, value_of, IsOfClass}

-- What a value gives at the place of a label, of a tree and of a list of trees. (A variable without a value of its
-- class gives the label 0, or no tree; no rule that is accepted has one.)
abbrev pub label_in : Option Value → Label
label_in (Some (value.Label l)) = l
label_in _ = record { 0 = 0 }

abbrev pub tree_in : Option Value → List Tree
tree_in (Some (value.Tree t)) = t ∷ []
tree_in _ = []

abbrev pub trees_in : Option Value → List Tree
trees_in (Some (value.Forest ts)) = ts
trees_in _ = []

-- The label that a head stands for.
abbrev pub label_of : Substitution → Head → Label
label_of s (head.Label l) = l
label_of s (head.Var v) = label_in (value_of s v)

-- The instance: a node stands for the tree with its head's label and the instances of its patterns as subtrees, a tree
-- variable for its tree, a forest variable for its list, and a list of patterns for the lists of its members, one
-- behind the other.
abbrev pub inst : Substitution → Patterns → List Tree
inst s no_pattern = []
inst s (node_first h kids behind) = node (label_of s h) (inst s kids) ∷ inst s behind
inst s (tree_var_first v behind) = tree_in (value_of s v) ++ inst s behind
inst s (forest_var_first v behind) = trees_in (value_of s v) ++ inst s behind

-- Each variable of the patterns has a value of its class.
abbrev pub IsLabel : Option Value → Type 0
IsLabel (Some (value.Label l)) = Unit {0}
IsLabel _ = ⊥

abbrev pub IsTree : Option Value → Type 0
IsTree (Some (value.Tree t)) = Unit {0}
IsTree _ = ⊥

abbrev pub IsForest : Option Value → Type 0
IsForest (Some (value.Forest ts)) = Unit {0}
IsForest _ = ⊥

abbrev pub IsHeadCovered : Substitution → Head → Type 0
IsHeadCovered s (head.Label l) = Unit {0}
IsHeadCovered s (head.Var v) = IsLabel (value_of s v)

abbrev pub IsCovered : Substitution → Patterns → Type 0
IsCovered s no_pattern = Unit {0}
IsCovered s (node_first h kids behind) = IsHeadCovered s h × IsCovered s kids × IsCovered s behind
IsCovered s (tree_var_first v behind) = IsTree (value_of s v) × IsCovered s behind
IsCovered s (forest_var_first v behind) = IsForest (value_of s v) × IsCovered s behind

-- The variables of a side, each once, where it first occurs.
abbrev pub variables : Patterns → List Var
variables side = firsts (variables_in side)

-- A match of a side with a list of trees: a substitution of exactly the side's variables, in the order of their first
-- occurrences, each with a value of its class, under which the side stands for the trees.
pub record IsMatch (side : Patterns) (trees : List Tree) (s : Substitution) : Type 0 where
  pub variables : variables_of s ≡ variables side
  pub classes : (p : Var × Value) → p ∈ s → IsOfClass p
  pub instance : inst s side ≡ trees
