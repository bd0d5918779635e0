use Rattle.std.proofs.Common.{arith}
use Rattle.qs_clean.specs.Cascades.{no_more, goes_on}
use Rattle.qs_clean.proofs.ExampleClosures as closures
use Rattle.qs_clean.proofs.ExampleCleaning as cleaning
use Rattle.qs_clean.proofs.examples.equal_rules_give_two_arcs.Goals as goal

pub returns-clause-closes : goal.returns-clause-closes
returns-clause-closes c = closures.equal_rules_close

pub returns-clause-cleans : goal.returns-clause-cleans
returns-clause-cleans c = cleaning.equal_rules_clean

pub returns-clause-cascade : goal.returns-clause-cascade
returns-clause-cascade c = goes_on closures.equal_rules_close (omega arith) cleaning.equal_rules_clean (omega arith) no_more
