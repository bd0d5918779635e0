use Rattle.std.proofs.Common.{arith}
use Rattle.qs_clean.specs.Cascades.{no_more, goes_on}
use Rattle.qs_clean.proofs.ExampleClosures as closures
use Rattle.qs_clean.proofs.ExampleCleaning as cleaning
use Rattle.qs_clean.proofs.examples.a_becomes_b.Goals as goal

pub returns-clause-closes : goal.returns-clause-closes
returns-clause-closes c = closures.one_rule_closes

pub returns-clause-cleans : goal.returns-clause-cleans
returns-clause-cleans c = cleaning.one_rule_cleans

pub returns-clause-cascade : goal.returns-clause-cascade
returns-clause-cascade c = goes_on closures.one_rule_closes (omega arith) cleaning.one_rule_cleans (omega arith) no_more
