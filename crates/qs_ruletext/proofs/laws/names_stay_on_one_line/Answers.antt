use Rattle.qs_ruletext.proofs.OneLine.{names_line}
use Rattle.qs_ruletext.proofs.laws.names_stay_on_one_line.Goals as goal

pub returns : goal.returns
returns c = names_line
