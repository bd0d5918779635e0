use Rattle.qs_core.proofs.Runs as runs
use Rattle.qs_core.proofs.laws.own_claims.Goals as goal

pub returns : goal.returns
returns c = λ B S v T made i m k other. runs.own B S v T made i m k other
