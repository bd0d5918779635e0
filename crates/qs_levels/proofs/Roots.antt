-- The roots of what sides with labels at their tops stand for.
use Rattle.std.proofs.Common.{◌≤◌, inl, inr, refl, ap, arith}
use Rattle.qs_tree.specs.Lists.{◌∈◌}
use Rattle.qs_tree.specs.Trees.{Tree}
use Rattle.qs_tree.specs.declared.cell.Label.{Label}
use Rattle.qs_pattern.specs.declared.pattern.Head.TheVariants as head
use Rattle.qs_pattern.specs.Patterns.{Patterns, no_pattern, node_first, tree_var_first, forest_var_first, count}
use Rattle.qs_pattern.specs.Substitutions.{Substitution}
use Rattle.qs_pattern.specs.Instances.{inst}
use Rattle.qs_levels.specs.Tops.{HasLabelsAtTop, top_labels}

-- the root of each tree of an instance is a label at the top
pub root_at_top : (s : Substitution) (side : Patterns) → HasLabelsAtTop side → (t : Tree) → t ∈ inst s side → t.root ∈ top_labels side
root_at_top s no_pattern h t i = absurd i
root_at_top s (node_first (head.Label l) kids behind) h t (inl e) = inl (ap (λ (x : Tree). x.root) e)
root_at_top s (node_first (head.Label l) kids behind) h t (inr i) = inr (root_at_top s behind h.1 t i)
root_at_top s (node_first (head.Var v) kids behind) h t i = absurd h.0
root_at_top s (tree_var_first v behind) h t i = absurd h
root_at_top s (forest_var_first v behind) h t i = absurd h

-- a side with patterns has a label at its top
pub some_top : (side : Patterns) → HasLabelsAtTop side → 1 ≤ count side → (l : Label) × (l ∈ top_labels side)
some_top no_pattern h n = absurd (omega arith)
some_top (node_first (head.Label l) kids behind) h n = (l, inl refl)
some_top (node_first (head.Var v) kids behind) h n = absurd h.0
some_top (tree_var_first v behind) h n = absurd h
some_top (forest_var_first v behind) h n = absurd h
