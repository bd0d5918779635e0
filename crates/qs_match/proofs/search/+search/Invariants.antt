use Rattle.std.proofs.Common.{◌≡◌, ◌+◌, ◌*◌, length}
use Rattle.qs_tree.specs.Cells.{trees_of}
use Rattle.qs_tree.specs.Splits.{front_of, behind_of}
use Rattle.qs_pattern.specs.Patterns.{patterns, node_first, tree_var_first, forest_var_first}
use Rattle.qs_match.proofs.Measures.{list_steps, steps}
use Rattle.qs_match.specs.working.Remaining.{tasks_of}
use Rattle.qs_match.specs.working.Bindings.{substitution_of}
use Rattle.qs_match.proofs.Fronts.{SplitsAt}
use Rattle.qs_match.proofs.search.+search.Given as goal

abbrev pub decreases-search : goal.decreases-search
decreases-search l = 3 * (list_steps (patterns l.state.now.side.now) + steps (tasks_of l.state.now.remaining.now)) + 1

abbrev pub decreases-search_with : goal.decreases-search_with
decreases-search_with l = 3 * (list_steps (patterns l.state.now.side.now) + steps (tasks_of l.state.now.remaining.now)) + 2

abbrev pub decreases-search_remaining : goal.decreases-search_remaining
decreases-search_remaining l = 3 * (1 + steps (tasks_of l.state.now.remaining.now))

abbrev pub decreases-search_node : goal.decreases-search_node
decreases-search_node l = 3 * (list_steps (node_first l.head (patterns l.kids.now) (patterns l.state.now.side.now)) + steps (tasks_of l.state.now.remaining.now))

abbrev pub decreases-search_tree : goal.decreases-search_tree
decreases-search_tree l = 3 * (list_steps (tree_var_first l.var (patterns l.state.now.side.now)) + steps (tasks_of l.state.now.remaining.now))

abbrev pub decreases-search_forest : goal.decreases-search_forest
decreases-search_forest l = 3 * (list_steps (forest_var_first l.var (patterns l.state.now.side.now)) + steps (tasks_of l.state.now.remaining.now))

abbrev pub invariant-search_forest-fronts : goal.invariant-search_forest-fronts
invariant-search_forest-fronts l = record {
  tried : SplitsAt (tasks_of l.state.remaining.now) (substitution_of l.state.bindings.now) l.var (patterns l.state.side.now) (trees_of l.state.trees.cells.now) (front_of l.split) (behind_of l.split) l.fn.found.items l.found.items;
  long : length (front_of l.split) ≡ l.length;
}

abbrev pub decreases-search_forest-fronts : goal.decreases-search_forest-fronts
decreases-search_forest-fronts l = length (behind_of l.split)
