use Rattle.qs_canon.proofs.Growing as growing
use Rattle.qs_canon.proofs.laws.stages_grow_by_firings.Goals as goal

pub returns-clause-arcs : goal.returns-clause-arcs
returns-clause-arcs c = λ R accepted G n S s. (growing.rounds_grow R accepted G n S s).arcs

pub returns-clause-nodes : goal.returns-clause-nodes
returns-clause-nodes c = λ R accepted G n S s. (growing.rounds_grow R accepted G n S s).nodes
