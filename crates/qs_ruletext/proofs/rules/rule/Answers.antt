use Rattle.std.proofs.Common.{refl, ap, ◌∙◌}
use Rattle.qs_lex.specs.Grammar.{part}
use Rattle.qs_reader.specs.Readers.{between}
use Rattle.qs_reader.proofs.Steps.{hands_on}
use Rattle.qs_ruletext.specs.Grammar.{rule}
use Rattle.qs_ruletext.specs.Rules.{cell_bytes}
use Rattle.qs_ruletext.specs.working.Readers.{Ends}
use Rattle.qs_ruletext.proofs.RuleSteps.{ends_in_left, ends_at_equals, ends_in_right, ends_in_given, ends_at_stop, read_rule}
use Rattle.qs_ruletext.proofs.rules.rule.Goals as goal

pub returns-in_err-left-clause-ends : goal.returns-in_err-left-clause-ends
returns-in_err-left-clause-ends c = hands_on c.from_residual.result (Ends (part rule) c.args.reader.now) c.from_residual.ensures.1 (ends_in_left c.in_err-left.ensures.ends)

pub returns-in_err-expect-clause-ends : goal.returns-in_err-expect-clause-ends
returns-in_err-expect-clause-ends c =
    hands_on c.from_residual-in_err-expect.result (Ends (part rule) c.args.reader.now) c.from_residual-in_err-expect.ensures.1 (ends_at_equals c.in_ok-left.ensures.read c.in_err-expect.ensures.ends)

pub returns-in_err-right-clause-ends : goal.returns-in_err-right-clause-ends
returns-in_err-right-clause-ends c =
    hands_on c.from_residual-in_err-right.result (Ends (part rule) c.args.reader.now) c.from_residual-in_err-right.ensures.1
    (ends_in_right c.in_ok-left.ensures.read c.in_ok-expect.ensures.ok c.in_err-right.ensures.ends)

pub returns-in_err-cond-clause-ends : goal.returns-in_err-cond-clause-ends
returns-in_err-cond-clause-ends c =
    hands_on c.from_residual-in_err-cond.result (Ends (part rule) c.args.reader.now) c.from_residual-in_err-cond.ensures.1
    (ends_in_given c.in_ok-left.ensures.read c.in_ok-expect.ensures.ok c.in_ok-right.ensures.read c.in_err-cond.ensures.ends)

pub returns-in_err-expect-2-clause-ends : goal.returns-in_err-expect-2-clause-ends
returns-in_err-expect-2-clause-ends c =
    hands_on c.from_residual-in_err-expect-2.result (Ends (part rule) c.args.reader.now) c.from_residual-in_err-expect-2.ensures.1
    (ends_at_stop c.in_ok-left.ensures.read c.in_ok-expect.ensures.ok c.in_ok-right.ensures.read c.in_ok-cond.ensures.read c.in_err-expect-2.ensures.ends)

pub returns-clause-read : goal.returns-clause-read
returns-clause-read c =
    read_rule _ refl (c.in_ok-at.ensures ∙ ap cell_bytes c.since.ensures ∙ ap (λ from. cell_bytes (between c.expect-2.new.self.tokens from c.expect-2.new.self.place)) c.place-from.ensures.place)
    c.in_ok-left.ensures.read c.in_ok-expect.ensures.ok c.in_ok-right.ensures.read c.in_ok-cond.ensures.read c.in_ok-expect-2.ensures.ok
