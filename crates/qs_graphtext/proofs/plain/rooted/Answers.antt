use Rattle.qs_lex.specs.Grammar.{a_label, part}
use Rattle.qs_reader.proofs.Steps.{hands_on}
use Rattle.qs_graphtext.specs.Grammar.{plain}
use Rattle.qs_graphtext.specs.working.Readers.{Ends}
use Rattle.qs_graphtext.proofs.PlainSteps.{ends_at_label}
use Rattle.qs_graphtext.proofs.ChainSteps.{read_rooted}
use Rattle.qs_graphtext.proofs.plain.rooted.Goals as goal

pub returns-in_err-first-clause-ends : goal.returns-in_err-first-clause-ends
returns-in_err-first-clause-ends c = hands_on c.from_residual.result (Ends (part plain) c.args.reader.now) c.from_residual.ensures.1 (ends_at_label (c.in_err-first.ensures.ends a_label))

pub returns-clause-read : goal.returns-clause-read
returns-clause-read c = read_rooted c.in_ok-first.ensures.next c.in_ok-tree.ensures.read
