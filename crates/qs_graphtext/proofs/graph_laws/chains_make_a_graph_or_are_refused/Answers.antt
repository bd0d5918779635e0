use Rattle.qs_graphtext.proofs.ChainDecisions.{chains_decided}
use Rattle.qs_graphtext.proofs.graph_laws.chains_make_a_graph_or_are_refused.Goals as goal

pub returns : goal.returns
returns c = λ chains some whole. chains_decided chains some whole
