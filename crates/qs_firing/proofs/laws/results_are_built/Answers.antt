use Rattle.qs_firing.proofs.Building as building
use Rattle.qs_firing.proofs.Merging as merging
use Rattle.qs_firing.proofs.laws.results_are_built.Goals as goal

pub returns-clause-path : goal.returns-clause-path
returns-clause-path c = merging.result_leads

pub returns-clause-trees : goal.returns-clause-trees
returns-clause-trees c = merging.result_trees

pub returns-clause-some : goal.returns-clause-some
returns-clause-some c = building.built_some

pub returns-clause-few : goal.returns-clause-few
returns-clause-few c = building.built_few
