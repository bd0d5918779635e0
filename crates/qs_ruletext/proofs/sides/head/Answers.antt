use Rattle.std.proofs.Common.{arith}
use Rattle.qs_ruletext.specs.working.Readers.{Ends, a_head}
use Rattle.qs_reader.proofs.Steps.{hands_on, passed_length, stayed_length}
use Rattle.qs_ruletext.proofs.SideSteps.{read_head_variable, read_head_label, ends_at_head}
use Rattle.qs_ruletext.proofs.sides.head.Goals as goal

pub returns-in-Some-clause-read : goal.returns-in-Some-clause-read
returns-in-Some-clause-read c = read_head_variable c.args.names.now c.in-Some.ensures.some

pub returns-in_ok-label-in-None-clause-read : goal.returns-in_ok-label-in-None-clause-read
returns-in_ok-label-in-None-clause-read c = read_head_label c.in-None.ensures.none c.in_ok-label-in-None.ensures.names

pub returns-in_err-label-in-None-clause-ends : goal.returns-in_err-label-in-None-clause-ends
returns-in_err-label-in-None-clause-ends c =
    hands_on c.from_residual.result (Ends a_head c.args.reader.now) c.from_residual.ensures.1 (ends_at_head c.in-None.ensures.none c.in_err-label-in-None.ensures.ends)

pub returns-in-Some-clause-shorter : goal.returns-in-Some-clause-shorter
returns-in-Some-clause-shorter c = omega (arith, passed_length c.in-Some.ensures.some.passed)

pub returns-in_ok-label-in-None-clause-shorter : goal.returns-in_ok-label-in-None-clause-shorter
returns-in_ok-label-in-None-clause-shorter c = omega (arith, stayed_length c.in-None.ensures.none, passed_length c.in_ok-label-in-None.ensures.names.passed)
