use Rattle.qs_core.proofs.Keeping as keeping
use Rattle.qs_core.proofs.Runs as runs
use Rattle.qs_core.proofs.laws.core_keeps.Goals as goal

pub returns-clause-opening : goal.returns-clause-opening
returns-clause-opening c = keeping.keeps_opening

pub returns-clause-step : goal.returns-clause-step
returns-clause-step c = runs.keeps_step

pub returns-clause-stop : goal.returns-clause-stop
returns-clause-stop c = runs.keeps_stop

pub returns-clause-run : goal.returns-clause-run
returns-clause-run c = runs.keeps
