use Rattle.qs_lex.specs.Grammar.{part}
use Rattle.qs_reader.proofs.Steps.{hands_on}
use Rattle.qs_graphtext.specs.Grammar.{chain}
use Rattle.qs_graphtext.specs.working.Readers.{Ends}
use Rattle.qs_graphtext.proofs.ChainSteps.{ends_at_from, ends_in_trees, ends_at_to, ends_at_stop, read_chain}
use Rattle.qs_graphtext.proofs.reading.chain.Goals as goal

pub returns-in_err-from-clause-ends : goal.returns-in_err-from-clause-ends
returns-in_err-from-clause-ends c = hands_on c.from_residual.result (Ends (part chain) c.args.reader.now) c.from_residual.ensures.1 (ends_at_from c.in_err-from.ensures.ends)

pub returns-in_err-trees-clause-ends : goal.returns-in_err-trees-clause-ends
returns-in_err-trees-clause-ends c =
    hands_on c.from_residual-in_err-trees.result (Ends (part chain) c.args.reader.now) c.from_residual-in_err-trees.ensures.1
    (ends_in_trees c.in_ok-from.ensures.passes c.args.names.now c.in_err-trees.ensures.ends)

pub returns-in_err-to-clause-ends : goal.returns-in_err-to-clause-ends
returns-in_err-to-clause-ends c =
    hands_on c.from_residual-in_err-to.result (Ends (part chain) c.args.reader.now) c.from_residual-in_err-to.ensures.1
    (ends_at_to c.in_ok-from.ensures.passes c.in_ok-trees.ensures.read c.in_err-to.ensures.ends)

pub returns-in_err-expect-clause-ends : goal.returns-in_err-expect-clause-ends
returns-in_err-expect-clause-ends c =
    hands_on c.from_residual-in_err-expect.result (Ends (part chain) c.args.reader.now) c.from_residual-in_err-expect.ensures.1
    (ends_at_stop c.in_ok-from.ensures.passes c.in_ok-trees.ensures.read c.in_ok-to.ensures.passes c.in_err-expect.ensures.ends)

pub returns-clause-read : goal.returns-clause-read
returns-clause-read c = read_chain c.in_ok-from.ensures.passes c.in_ok-trees.ensures.read c.in_ok-to.ensures.passes c.in_ok-expect.ensures.ok
