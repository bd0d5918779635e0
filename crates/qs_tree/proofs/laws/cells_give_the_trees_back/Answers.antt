use Rattle.std.proofs.Common.{refl, ap, ◌∙◌}
use Rattle.qs_tree.specs.Trees.{trees, forest}
use Rattle.qs_tree.specs.working.Trees.{trees-forest}
use Rattle.qs_tree.specs.working.Cells.{forest_in-cells_of, tree_of-cells_of_tree}
use Rattle.qs_tree.proofs.Runs.{tree_cells, forest_cells}
use Rattle.qs_tree.proofs.laws.cells_give_the_trees_back.Goals as goal

pub returns-clause-is_tree : goal.returns-clause-is_tree
returns-clause-is_tree c t = tree_cells t _ refl

pub returns-clause-tree : goal.returns-clause-tree
returns-clause-tree c = tree_of-cells_of_tree

pub returns-clause-is_forest : goal.returns-clause-is_forest
returns-clause-is_forest c ts = forest_cells (forest ts) _ refl

pub returns-clause-trees : goal.returns-clause-trees
returns-clause-trees c ts = ap trees (forest_in-cells_of (forest ts)) ∙ trees-forest ts
