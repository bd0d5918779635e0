use Rattle.qs_ruletext.proofs.KnownTokens.{all_known}
use Rattle.qs_ruletext.proofs.WholeRead.{rule_read}
use Rattle.qs_ruletext.proofs.laws.what_is_whole_is_read.Goals as goal

pub returns : goal.returns
returns c = λ text ts rest old names all g w. rule_read names text (all_known text ts old names all g) w
