use Rattle.qs_command.proofs.ReadWords.{same_job}
use Rattle.qs_command.proofs.laws.one_job.Goals as goal

pub returns : goal.returns
returns c = same_job
