use Rattle.qs_core.proofs.Twins.{valid_ends}
use Rattle.qs_canon.proofs.Runs as runs
use Rattle.qs_canon.proofs.Stages as stages
use Rattle.qs_canon.proofs.run_laws.runs_are_carried.Goals as goal

pub returns-clause-rounds : goal.returns-clause-rounds
returns-clause-rounds c = λ B valid journal last T run n S few reached. runs.carried_run B (valid_ends valid) journal last T run n S few reached

pub returns-clause-closure : goal.returns-clause-closure
returns-clause-closure c = λ B valid journal last T run C closes. runs.carried_closure B (valid_ends valid) journal last T run C closes

pub returns-clause-results : goal.returns-clause-results
returns-clause-results c = stages.first_is
