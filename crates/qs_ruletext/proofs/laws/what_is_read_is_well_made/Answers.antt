use Rattle.qs_ruletext.proofs.Told.{told_rule}
use Rattle.qs_ruletext.proofs.laws.what_is_read_is_well_made.Goals as goal

pub returns : goal.returns
returns c = λ names text ts rest r reads. told_rule reads
