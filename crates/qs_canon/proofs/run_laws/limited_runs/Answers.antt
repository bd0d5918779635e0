use Rattle.qs_core.proofs.Twins.{valid_ends}
use Rattle.qs_core.proofs.Runs.{keeps}
use Rattle.qs_canon.proofs.Existence.{has_rounds}
use Rattle.qs_canon.proofs.Runs as runs
use Rattle.qs_canon.proofs.run_laws.limited_runs.Goals as goal

pub returns-clause-few : goal.returns-clause-few
returns-clause-few c = λ B journal last T run. (keeps B journal last T run).few

pub returns-clause-over : goal.returns-clause-over
returns-clause-over c = λ B valid ok journal last T run i e. runs.over_needs B (valid_ends valid) journal last T run (has_rounds B.rules ok) i e

pub returns-clause-closed : goal.returns-clause-closed
returns-clause-closed c = λ B valid journal last T run closed more. runs.closed_needs B (valid_ends valid) journal last T run closed more
