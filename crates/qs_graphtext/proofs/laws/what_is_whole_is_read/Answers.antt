use Rattle.qs_ruletext.proofs.KnownTokens.{all_known}
use Rattle.qs_graphtext.proofs.WholeRead.{graph_read}
use Rattle.qs_graphtext.proofs.laws.what_is_whole_is_read.Goals as goal

pub returns : goal.returns
returns c = λ text tokens rest old names all g w. graph_read names text (all_known text tokens old names all g) w
