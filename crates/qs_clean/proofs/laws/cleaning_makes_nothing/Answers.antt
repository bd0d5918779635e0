use Rattle.qs_clean.proofs.Fewer as fewer
use Rattle.qs_clean.proofs.laws.cleaning_makes_nothing.Goals as goal

pub returns-clause-arcs : goal.returns-clause-arcs
returns-clause-arcs c = λ S H cleans. fewer.fewer_arcs S H cleans

pub returns-clause-nodes : goal.returns-clause-nodes
returns-clause-nodes c = λ S H cleans valid. fewer.fewer_nodes S H cleans valid

pub returns-clause-trees : goal.returns-clause-trees
returns-clause-trees c = λ S H cleans arc i. fewer.old_tree S H cleans arc i
