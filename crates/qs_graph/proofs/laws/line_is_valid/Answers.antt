use Rattle.qs_graph.proofs.Lines as lines
use Rattle.qs_graph.proofs.laws.line_is_valid.Goals as goal

pub returns : goal.returns
returns c = λ a b ts some ends low low'. lines.line_valid a b ts some ends low low'
