use Rattle.qs_canon.proofs.MergingClosures as closures
use Rattle.qs_canon.proofs.examples.equal_arcs_are_merged.Goals as goal

pub returns-clause-itself : goal.returns-clause-itself
returns-clause-itself c = closures.itself-closes

pub returns-clause-twice : goal.returns-clause-twice
returns-clause-twice c = closures.twice-closes

pub returns-clause-several : goal.returns-clause-several
returns-clause-several c = closures.several-closes

pub returns-clause-at_start : goal.returns-clause-at_start
returns-clause-at_start c = closures.at_start-closes

pub returns-clause-circle : goal.returns-clause-circle
returns-clause-circle c = closures.circle-closes

pub returns-clause-circle_needs : goal.returns-clause-circle_needs
returns-clause-circle_needs c = closures.circle-needs

pub returns-clause-either : goal.returns-clause-either
returns-clause-either c = closures.either-closes
