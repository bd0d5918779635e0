-- The labels at the tops of rules, as the program lists them.
use Rattle.std.specs.Prelude.{ℕ, ◌+◌, Bool, true, false, List, [], ◌∷◌, ◌++◌, map, Option, Some, None}
use Rattle.qs_tree.specs.Lists.{◌∈◌}
use Rattle.qs_tree.specs.declared.cell.Label.{Label}
use Rattle.qs_pattern.specs.declared.pattern.Head.{Head}
use Rattle.qs_pattern.specs.declared.pattern.Head.TheVariants as head
use Rattle.qs_pattern.specs.declared.pattern.Pattern.{Pattern, Node', Tree, Forest}
use Rattle.qs_pattern.specs.Patterns.{Patterns}
use Rattle.qs_pattern.specs.Rules.{Rule}
use Rattle.qs_levels.specs.declared.tops.Top.{Top}
use Rattle.qs_levels.specs.Tops.{HasLabelsAtTop, top_labels}

-- The label of a node with a label as head.
abbrev pub label_of : Head → Option Label
label_of (head.Label l) = Some l
label_of (head.Var v) = None

abbrev pub label_at_top : Pattern → Option Label
label_at_top (Node' h shape kids) = label_of h
label_at_top (Tree v) = None
label_at_top (Forest v) = None

-- The labels at the top of a side of a rule, and those of rules, of which the first has the number n.
abbrev pub tops_of_side : ℕ → Bool → Patterns → List Top
tops_of_side rule right side = map (λ l. record { rule = rule; right = right; label = l }) (top_labels side)

abbrev pub tops_from : ℕ → List Rule → List Top
tops_from n [] = []
tops_from n (rule ∷ rules) = tops_of_side n false rule.left ++ tops_of_side n true rule.right ++ tops_from (n + 1) rules

-- Every pattern at the top of the rules is a node with a label as head.
pub record HaveLabelsAtTops (rules : List Rule) : Type 0 where
  pub left : (rule : Rule) → rule ∈ rules → HasLabelsAtTop rule.left
  pub right : (rule : Rule) → rule ∈ rules → HasLabelsAtTop rule.right
