use Rattle.qs_lex.specs.Grammar.{a_node_mark}
use Rattle.qs_reader.specs.Readers.{EndsHere}
use Rattle.qs_reader.proofs.Steps.{hands_on}
use Rattle.qs_reader.proofs.Tokens.{passed}
use Rattle.qs_graphtext.proofs.reading.mark.Goals as goal

pub returns-in_err-next-clause-ends : goal.returns-in_err-next-clause-ends
returns-in_err-next-clause-ends c = hands_on c.from_residual.result (EndsHere a_node_mark c.args.reader.now) c.from_residual.ensures.1 (c.in_err-next.ensures.ends a_node_mark)

pub returns-clause-passes : goal.returns-clause-passes
returns-clause-passes c =
    record { token = c.in_ok-next.next; passed = passed c.args.reader.now c.take.new.self c.in_ok-next.next c.in_ok-next.ensures.next c.take.ensures.taken; is = c.in-Node.is }
