use Rattle.qs_tree.specs.working.Trees.{trees-forest, forest-trees}
use Rattle.qs_tree.proofs.laws.forests_are_lists.Goals as goal

pub returns-clause-list : goal.returns-clause-list
returns-clause-list c = trees-forest

pub returns-clause-forest : goal.returns-clause-forest
returns-clause-forest c = forest-trees
