use Rattle.qs_graphtext.proofs.WrittenGraphs.{graph_within, graph_alone}
use Rattle.qs_graphtext.proofs.graph_laws.what_is_written_is_read.Goals as goal

pub returns-clause-within : goal.returns-clause-within
returns-clause-within c = λ names before behind G rest next line valid few named. graph_within names G line valid few named before behind rest next

pub returns-clause-alone : goal.returns-clause-alone
returns-clause-alone c = λ names G line valid few named. graph_alone names G line valid few named
