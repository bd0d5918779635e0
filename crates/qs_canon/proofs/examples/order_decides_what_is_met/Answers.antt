use Rattle.qs_canon.proofs.RunExamples as runs
use Rattle.qs_canon.proofs.examples.order_decides_what_is_met.Goals as goal

pub returns-clause-closed : goal.returns-clause-closed
returns-clause-closed c = (runs.closing_run, runs.is_closed)

pub returns-clause-same : goal.returns-clause-same
returns-clause-same c = runs.same

pub returns-clause-stopped : goal.returns-clause-stopped
returns-clause-stopped c = runs.stopped_run

pub returns-clause-needs : goal.returns-clause-needs
returns-clause-needs c = runs.needs
