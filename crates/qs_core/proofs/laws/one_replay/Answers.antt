use Rattle.qs_core.proofs.Runs as runs
use Rattle.qs_core.proofs.laws.one_replay.Goals as goal

pub returns : goal.returns
returns c = runs.one_run
