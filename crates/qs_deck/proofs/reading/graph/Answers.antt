use Rattle.qs_reader.proofs.Steps.{hands_on}
use Rattle.qs_deck.specs.working.Readers.{Ends, one_graph}
use Rattle.qs_deck.proofs.Steps.{shallow_on, read_graph, graph_end}
use Rattle.qs_deck.proofs.reading.graph.Goals as goal

pub read_chains-requires-clause-shallow : goal.read_chains-requires-clause-shallow
read_chains-requires-clause-shallow c = shallow_on c.tokens.ensures.tokens c.requires.shallow

pub returns-in_err-chains-clause-ends : goal.returns-in_err-chains-clause-ends
returns-in_err-chains-clause-ends c =
    hands_on c.from_residual.result (Ends one_graph c.args.reader.now) c.from_residual.ensures.1 (graph_end c.text.ensures c.tokens.ensures.tokens c.place.ensures.place c.in_err-chains.ensures.ends)

pub returns-clause-read : goal.returns-clause-read
returns-clause-read c =
    read_graph c.text.ensures c.tokens.ensures.tokens c.place.ensures.place c.go_to.ensures
    c.in_ok-chains.ensures.behind c.in_ok-chains.ensures.read c.in_ok-chains.ensures.names c.read_chains.ensures.keeps c.in_ok-chains.ensures.few
