use Rattle.qs_core.proofs.Runs as runs
use Rattle.qs_core.proofs.laws.closed_runs_are_complete.Goals as goal

pub returns-clause-all : goal.returns-clause-all
returns-clause-all c = λ B journal last T run closed f.
    let kept = runs.keeps B journal last T run in
    (runs.closed_all B T kept closed f, runs.done_fires B T kept f)

pub returns-clause-once : goal.returns-clause-once
returns-clause-once c = λ B journal last T run. (runs.keeps B journal last T run).once
