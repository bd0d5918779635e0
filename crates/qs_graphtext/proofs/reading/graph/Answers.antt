use Rattle.qs_lex.specs.Grammar.{part}
use Rattle.qs_reader.proofs.Steps.{hands_on}
use Rattle.qs_graphtext.specs.Grammar.{graph}
use Rattle.qs_graphtext.specs.working.Readers.{Ends}
use Rattle.qs_graphtext.proofs.ChainSteps.{ends_at_graph, ends_in_chains, ends_at_fin, read_graph}
use Rattle.qs_graphtext.proofs.reading.graph.Goals as goal

pub returns-in_err-expect-clause-ends : goal.returns-in_err-expect-clause-ends
returns-in_err-expect-clause-ends c = hands_on c.from_residual.result (Ends (part graph) c.args.reader.now) c.from_residual.ensures.1 (ends_at_graph c.in_err-expect.ensures.ends)

pub returns-in_err-chains-clause-ends : goal.returns-in_err-chains-clause-ends
returns-in_err-chains-clause-ends c =
    hands_on c.from_residual-in_err-chains.result (Ends (part graph) c.args.reader.now) c.from_residual-in_err-chains.ensures.1
    (ends_in_chains c.args.names.now c.in_ok-expect.ensures.ok c.in_err-chains.ensures.ends)

pub returns-in_err-expect-2-clause-ends : goal.returns-in_err-expect-2-clause-ends
returns-in_err-expect-2-clause-ends c =
    hands_on c.from_residual-in_err-expect-2.result (Ends (part graph) c.args.reader.now) c.from_residual-in_err-expect-2.ensures.1
    (ends_at_fin c.in_ok-expect.ensures.ok c.in_ok-chains.ensures.read c.in_err-expect-2.ensures.ends)

pub returns-clause-read : goal.returns-clause-read
returns-clause-read c = read_graph c.in_ok-expect.ensures.ok c.in_ok-chains.ensures.read c.in_ok-expect-2.ensures.ok
