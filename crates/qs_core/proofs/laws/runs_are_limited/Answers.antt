use Rattle.qs_core.proofs.Runs as runs
use Rattle.qs_core.proofs.laws.runs_are_limited.Goals as goal

pub returns-clause-few : goal.returns-clause-few
returns-clause-few c = λ B journal last T run. (runs.keeps B journal last T run).few

pub returns-clause-over : goal.returns-clause-over
returns-clause-over c = runs.over_shows
