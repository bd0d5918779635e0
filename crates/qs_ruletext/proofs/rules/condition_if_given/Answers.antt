use Rattle.std.proofs.Common.{refl}
use Rattle.qs_reader.proofs.Steps.{hands_on}
use Rattle.qs_ruletext.specs.working.Readers.{Ends, condition_if_any}
use Rattle.qs_ruletext.proofs.RuleSteps.{read_no_cond, read_some_cond, ends_in_cond}
use Rattle.qs_ruletext.proofs.rules.condition_if_given.Goals as goal

pub returns-then-not-pass-clause-read : goal.returns-then-not-pass-clause-read
returns-then-not-pass-clause-read c = read_no_cond c.args.names.now (c.if-not-pass.ensures.no refl)

pub returns-in_err-cond-clause-ends : goal.returns-in_err-cond-clause-ends
returns-in_err-cond-clause-ends c =
    hands_on c.from_residual.result (Ends condition_if_any c.args.reader.now) c.from_residual.ensures.1 (ends_in_cond (c.if-not-pass.ensures.yes refl) c.in_err-cond.ensures.ends)

pub returns-clause-read : goal.returns-clause-read
returns-clause-read c = read_some_cond (c.if-not-pass.ensures.yes refl) c.in_ok-cond.ensures.read
