-- Other numbers for the labels. A label is kept as the number of its text, so that which number it has tells only where
-- its text stands in a list. Here each kind of thing that has labels is written with other numbers for them.
-- (This project.)
use Rattle.std.specs.Prelude.{ℕ, ◌≡◌, map}
use Rattle.std.specs.Option.{option_map}
use Rattle.qs_tree.specs.declared.cell.Label.{Label}
use Rattle.qs_tree.specs.Trees.{Forest, no_tree, first_tree, Tree}
use Rattle.qs_pattern.specs.declared.pattern.Head.{Head}
use Rattle.qs_pattern.specs.declared.pattern.Head.TheVariants as head
use Rattle.qs_pattern.specs.Patterns.{Patterns, no_pattern, node_first, tree_var_first, forest_var_first}
use Rattle.qs_pattern.specs.Conditions.{Condition, Conditions, compared, negated, combined, no_condition}
use Rattle.qs_pattern.specs.Conditions.{condition_first}
use Rattle.qs_pattern.specs.Rules.{Rule}
use Rattle.qs_graph.specs.Graphs.{Arc, QGraph}
use Rattle.qs_clean.specs.Cascades.{Left, a_graph, no_arc, over}

-- f gives each label a number in place of its own, and g gives its own back: no two labels get the same number, and
-- each number is some label's.
pub record IsRenaming (f g : ℕ → ℕ) : Type 0 where
  pub back : (n : ℕ) → g (f n) ≡ n
  pub forth : (n : ℕ) → f (g n) ≡ n

-- The label n is written as f n.
abbrev pub renamed_label : (ℕ → ℕ) → Label → Label
renamed_label f l = record { 0 = f l.0 }

-- A tree has its labels written so, at every depth.
abbrev pub renamed_forest : (ℕ → ℕ) → Forest → Forest
renamed_forest f no_tree = no_tree
renamed_forest f (first_tree l k r) = first_tree (renamed_label f l) (renamed_forest f k) (renamed_forest f r)

abbrev pub renamed_tree : (ℕ → ℕ) → Tree → Tree
renamed_tree f t = record { root = renamed_label f t.root; subtrees = renamed_forest f t.subtrees }

-- In patterns the labels are written so, and the variables stay.
abbrev pub renamed_head : (ℕ → ℕ) → Head → Head
renamed_head f (head.Label l) = head.Label (renamed_label f l)
renamed_head f (head.Var v) = head.Var v

abbrev pub renamed_patterns : (ℕ → ℕ) → Patterns → Patterns
renamed_patterns f no_pattern = no_pattern
renamed_patterns f (node_first h kids behind) =
    node_first (renamed_head f h) (renamed_patterns f kids) (renamed_patterns f behind)
renamed_patterns f (tree_var_first v behind) = tree_var_first v (renamed_patterns f behind)
renamed_patterns f (forest_var_first v behind) = forest_var_first v (renamed_patterns f behind)

-- A condition has its patterns written so.
abbrev mutual
  pub renamed_condition : (ℕ → ℕ) → Condition → Condition
  renamed_condition f (compared word a b) = compared word (renamed_patterns f a) (renamed_patterns f b)
  renamed_condition f (negated c) = negated (renamed_condition f c)
  renamed_condition f (combined word cs) = combined word (renamed_conditions f cs)

  pub renamed_conditions : (ℕ → ℕ) → Conditions → Conditions
  renamed_conditions f no_condition = no_condition
  renamed_conditions f (condition_first c cs) = condition_first (renamed_condition f c) (renamed_conditions f cs)

-- A rule has its sides and its condition written so, and keeps its mark.
abbrev pub renamed_rule : (ℕ → ℕ) → Rule → Rule
renamed_rule f rule = record {
  left = renamed_patterns f rule.left;
  right = renamed_patterns f rule.right;
  condition = option_map (renamed_condition f) rule.condition;
  unique = rule.unique;
}

-- A graph has the trees on its arcs written so; its nodes and its arcs stay.
abbrev pub renamed_arc : (ℕ → ℕ) → Arc → Arc
renamed_arc f arc = record { from = arc.from; to = arc.to; tree = renamed_tree f arc.tree }

abbrev pub renamed_graph : (ℕ → ℕ) → QGraph → QGraph
renamed_graph f G = record { nodes = G.nodes; arcs = map (renamed_arc f) G.arcs }

-- What a grammar leaves has its graph written so.
abbrev pub renamed_left : (ℕ → ℕ) → Left → Left
renamed_left f (a_graph firings G) = a_graph firings (renamed_graph f G)
renamed_left f (no_arc firings) = no_arc firings
renamed_left f over = over
