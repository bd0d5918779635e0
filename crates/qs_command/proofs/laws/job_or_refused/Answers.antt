use Rattle.qs_command.proofs.ReadWords.{job_or_refused, not_both}
use Rattle.qs_command.proofs.laws.job_or_refused.Goals as goal

pub returns-clause-one : goal.returns-clause-one
returns-clause-one c = job_or_refused

pub returns-clause-not_both : goal.returns-clause-not_both
returns-clause-not_both c = not_both
