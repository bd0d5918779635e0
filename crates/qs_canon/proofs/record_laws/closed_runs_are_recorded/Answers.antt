use Rattle.qs_core.proofs.Runs.{keeps, closed_all}
use Rattle.qs_canon.proofs.record_laws.closed_runs_are_recorded.Goals as goal

pub returns : goal.returns
returns c = λ B valid journal last T run closed.
    let K = keeps B journal last T run in
    record { valid = valid; grown = K.grown; once = K.once; closed = closed_all B T K closed }
