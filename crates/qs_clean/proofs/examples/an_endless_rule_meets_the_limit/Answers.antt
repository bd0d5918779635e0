use Rattle.qs_clean.specs.Cascades.{limit}
use Rattle.qs_clean.proofs.ExampleClosures as closures
use Rattle.qs_clean.proofs.examples.an_endless_rule_meets_the_limit.Goals as goal

pub returns-clause-needs : goal.returns-clause-needs
returns-clause-needs c = closures.endless_rule_needs_more

pub returns-clause-cascade : goal.returns-clause-cascade
returns-clause-cascade c = limit closures.endless_rule_needs_more
