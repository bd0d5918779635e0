use Rattle.qs_core.proofs.Twins.{valid_ends}
use Rattle.qs_core.proofs.Runs.{keeps}
use Rattle.qs_canon.proofs.Existence.{has_rounds}
use Rattle.qs_canon.proofs.Runs as runs
use Rattle.qs_canon.proofs.run_laws.closed_runs_are_closures.Goals as goal

pub returns-clause-same : goal.returns-clause-same
returns-clause-same c = λ B valid journal last T run closed C closes. runs.closed_run B (valid_ends valid) journal last T run closed C closes

pub returns-clause-closes : goal.returns-clause-closes
returns-clause-closes c = λ B valid ok journal last T run closed. runs.closed_closes B (valid_ends valid) journal last T run (has_rounds B.rules ok) closed

pub returns-clause-once : goal.returns-clause-once
returns-clause-once c = λ B journal last T run. (keeps B journal last T run).once
