use Rattle.qs_graphtext.proofs.Whole.{graph_whole}
use Rattle.qs_graphtext.proofs.laws.what_is_read_is_whole.Goals as goal

pub returns : goal.returns
returns c = λ names text tokens chains rest r. graph_whole r
