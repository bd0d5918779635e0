use Rattle.qs_clean.proofs.CascadeExistence as existence
use Rattle.qs_clean.proofs.laws.something_is_left.Goals as goal

pub returns-clause-left : goal.returns-clause-left
returns-clause-left c = λ R accepted G valid n S s. existence.reached_left R accepted G valid n S s

pub returns-clause-valid : goal.returns-clause-valid
returns-clause-valid c = λ R accepted G valid n S s H left. existence.reached_valid R accepted G valid n S s H left.0 left.1
