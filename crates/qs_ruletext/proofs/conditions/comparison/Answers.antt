use Rattle.std.proofs.Common.{refl}
use Rattle.qs_reader.proofs.Steps.{hands_on}
use Rattle.qs_ruletext.specs.working.Readers.{Ends, a_comparison}
use Rattle.qs_ruletext.proofs.ConditionSteps.{ends_in_first_list, ends_at_relation, ends_in_second_within, ends_in_second_outside, ends_in_second_same, read_within, read_outside, read_same}
use Rattle.qs_ruletext.proofs.conditions.comparison.Goals as goal

pub returns-in_err-a-clause-ends : goal.returns-in_err-a-clause-ends
returns-in_err-a-clause-ends c = hands_on c.from_residual.result (Ends a_comparison c.args.reader.now) c.from_residual.ensures.1 (ends_in_first_list c.in_err-a.ensures.ends)

pub returns-in_err-b-clause-ends : goal.returns-in_err-b-clause-ends
returns-in_err-b-clause-ends c =
    hands_on c.from_residual-in_err-b.result (Ends a_comparison c.args.reader.now) c.from_residual-in_err-b.ensures.1
    (ends_in_second_within c.in_ok-a.ensures.read (c.if-pass.ensures.yes refl) c.in_err-b.ensures.ends)

pub returns-then-pass-clause-read : goal.returns-then-pass-clause-read
returns-then-pass-clause-read c = read_within c.in_ok-a.ensures.read (c.if-pass.ensures.yes refl) c.in_ok-b.ensures.read

pub returns-in_err-b-2-clause-ends : goal.returns-in_err-b-2-clause-ends
returns-in_err-b-2-clause-ends c =
    hands_on c.from_residual-in_err-b-2.result (Ends a_comparison c.args.reader.now) c.from_residual-in_err-b-2.ensures.1
    (ends_in_second_outside c.in_ok-a.ensures.read (c.if-pass.ensures.no refl) (c.if-pass-2.ensures.yes refl) c.in_err-b-2.ensures.ends)

pub returns-then-pass-2-clause-read : goal.returns-then-pass-2-clause-read
returns-then-pass-2-clause-read c = read_outside c.in_ok-a.ensures.read (c.if-pass.ensures.no refl) (c.if-pass-2.ensures.yes refl) c.in_ok-b-2.ensures.read

pub returns-in_err-expect-clause-ends : goal.returns-in_err-expect-clause-ends
returns-in_err-expect-clause-ends c =
    hands_on c.from_residual-in_err-expect.result (Ends a_comparison c.args.reader.now) c.from_residual-in_err-expect.ensures.1
    (ends_at_relation c.in_ok-a.ensures.read (c.if-pass.ensures.no refl) (c.if-pass-2.ensures.no refl) c.in_err-expect.ensures.ends)

pub returns-in_err-b-3-clause-ends : goal.returns-in_err-b-3-clause-ends
returns-in_err-b-3-clause-ends c =
    hands_on c.from_residual-in_err-b-3.result (Ends a_comparison c.args.reader.now) c.from_residual-in_err-b-3.ensures.1
    (ends_in_second_same c.in_ok-a.ensures.read (c.if-pass.ensures.no refl) (c.if-pass-2.ensures.no refl) c.in_ok-expect.ensures.ok c.in_err-b-3.ensures.ends)

pub returns-clause-read : goal.returns-clause-read
returns-clause-read c = read_same c.in_ok-a.ensures.read (c.if-pass.ensures.no refl) (c.if-pass-2.ensures.no refl) c.in_ok-expect.ensures.ok c.in_ok-b-3.ensures.read
