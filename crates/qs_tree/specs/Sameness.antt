-- When two trees are the same: they have the same labels at the same places. This is equality of trees, by cases that
-- answer true or false.
use Rattle.std.specs.Prelude.{Bool, true, false, ◌&&◌, ◌==◌}
use Rattle.qs_tree.specs.Trees.{Forest, no_tree, first_tree, Tree}

-- Two lists of trees are the same where they have as many trees, and the trees at each place have the same label and
-- the same subtrees.
abbrev pub same_forest : Forest → Forest → Bool
same_forest no_tree no_tree = true
same_forest no_tree (first_tree m h s) = false
same_forest (first_tree l k r) no_tree = false
same_forest (first_tree l k r) (first_tree m h s) = l.0 == m.0 && (same_forest k h && same_forest r s)

-- Two trees are the same where their labels and their subtrees are.
abbrev pub same_tree : Tree → Tree → Bool
same_tree t u = t.root.0 == u.root.0 && same_forest t.subtrees u.subtrees
