use Rattle.std.proofs.Common.{arith, refl}
use Rattle.qs_clean.specs.Cascades.{empty}
use Rattle.qs_clean.proofs.ExampleClosures as closures
use Rattle.qs_clean.proofs.ExampleCleaning as cleaning
use Rattle.qs_clean.proofs.examples.overlapping_rules_leave_nothing.Goals as goal

pub returns-clause-closes : goal.returns-clause-closes
returns-clause-closes c = closures.overlapping_rules_close

pub returns-clause-cleans : goal.returns-clause-cleans
returns-clause-cleans c = cleaning.overlapping_rules_clean

pub returns-clause-cascade : goal.returns-clause-cascade
returns-clause-cascade c = empty closures.overlapping_rules_close (omega arith) cleaning.overlapping_rules_clean refl
