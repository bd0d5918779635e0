use Rattle.std.proofs.Common.{refl, ap}
use Rattle.std.proofs.lemmas.Result.{IfOk-weaker, IfErr-weaker}
use Rattle.qs_lex.specs.Grammar.{part}
use Rattle.qs_pattern.specs.Conditions.{negated, condition_of}
use Rattle.qs_pattern.specs.working.Conditions.{conditions}
use Rattle.qs_reader.proofs.Steps.{hands_on, token_read, then_read, part_read, part_ends, first_ends}
use Rattle.qs_reader.proofs.Lists.{first_read, next_read, no_more_read, next_ends}
use Rattle.qs_ruletext.specs.Grammar.{cond, conj, neg, prim}
use Rattle.qs_ruletext.specs.working.Readers.{Ends}
use Rattle.qs_ruletext.proofs.ConditionSteps.{read_group, ends_in_group, ends_unclosed_group, read_comparison, ends_in_comparison, read_negated, ends_in_negated, read_not_negated, ends_in_prim, conj_first, conj_next, conj_last, cond_first, cond_next, cond_last}
use Rattle.qs_ruletext.proofs.conditions.+conditions.Goals as goal

pub primary-returns-then-not-pass-clause-read : goal.primary-returns-then-not-pass-clause-read
primary-returns-then-not-pass-clause-read t c = IfOk-weaker c.comparison.result _ _ (λ found a. read_comparison (c.if-not-pass.ensures.no refl) a) c.comparison.ensures.read

pub primary-returns-then-not-pass-clause-ends : goal.primary-returns-then-not-pass-clause-ends
primary-returns-then-not-pass-clause-ends t c = IfErr-weaker c.comparison.result _ _ (λ end e. ends_in_comparison (c.if-not-pass.ensures.no refl) e) c.comparison.ensures.ends

pub primary-returns-in_err-member-clause-ends : goal.primary-returns-in_err-member-clause-ends
primary-returns-in_err-member-clause-ends t c =
    hands_on c.from_residual.result (Ends (part prim) c.args.reader.now) c.from_residual.ensures.1 (ends_in_group (c.if-not-pass.ensures.yes refl) c.in_err-member.ensures.ends)

pub primary-returns-in_err-expect-clause-ends : goal.primary-returns-in_err-expect-clause-ends
primary-returns-in_err-expect-clause-ends t c =
    hands_on c.from_residual-in_err-expect.result (Ends (part prim) c.args.reader.now) c.from_residual-in_err-expect.ensures.1
    (ends_unclosed_group (c.if-not-pass.ensures.yes refl) c.in_ok-member.ensures.read c.in_err-expect.ensures.ends)

pub primary-returns-clause-read : goal.primary-returns-clause-read
primary-returns-clause-read t c = read_group (c.if-not-pass.ensures.yes refl) c.in_ok-member.ensures.read c.in_ok-expect.ensures.ok

pub negation-returns-then-not-pass-clause-read : goal.negation-returns-then-not-pass-clause-read
negation-returns-then-not-pass-clause-read t c = IfOk-weaker c.primary.result _ _ (λ found a. read_not_negated (c.if-not-pass.ensures.no refl) a) c.primary.ensures.read

pub negation-returns-then-not-pass-clause-ends : goal.negation-returns-then-not-pass-clause-ends
negation-returns-then-not-pass-clause-ends t c = IfErr-weaker c.primary.result _ _ (λ end e. ends_in_prim (c.if-not-pass.ensures.no refl) e) c.primary.ensures.ends

pub negation-returns-in_err-member-clause-ends : goal.negation-returns-in_err-member-clause-ends
negation-returns-in_err-member-clause-ends t c =
    hands_on c.from_residual.result (Ends (part neg) c.args.reader.now) c.from_residual.ensures.1 (ends_in_negated (c.if-not-pass.ensures.yes refl) c.in_err-member.ensures.ends)

pub negation-returns-clause-read : goal.negation-returns-clause-read
negation-returns-clause-read t c = read_negated _ (ap (λ x. negated (condition_of x)) c.in_ok-new.ensures.ok) (c.if-not-pass.ensures.yes refl) c.in_ok-member.ensures.read

pub conjunction-returns-in_err-first-clause-ends : goal.conjunction-returns-in_err-first-clause-ends
conjunction-returns-in_err-first-clause-ends t c = hands_on c.from_residual.result (Ends (part conj) c.args.reader.now) c.from_residual.ensures.1 (part_ends (first_ends c.in_err-first.ensures.ends))

pub conjunction-loop-reader-init : goal.conjunction-loop-reader-init
conjunction-loop-reader-init t c = first_read (conj_first (conditions c.new-more.result.items) (ap conditions c.new-more.ensures.items)) c.in_ok-first.ensures.read

pub conjunction-returns-in_err-next-clause-ends : goal.conjunction-returns-in_err-next-clause-ends
conjunction-returns-in_err-next-clause-ends t c =
    hands_on c.from_residual-in_err-next.result (Ends (part conj) c.args.reader.now) c.from_residual-in_err-next.ensures.1
    (part_ends (next_ends c.loop-reader.invariant (c.loop-reader-test.ensures.yes refl) c.in_err-next.ensures.ends))

pub conjunction-loop-reader-preserved : goal.conjunction-loop-reader-preserved
conjunction-loop-reader-preserved t c =
    next_read (conj_next _ c.loop-reader.more.items c.push.new.self.items c.in_ok-next.next c.in_ok-push.ensures.items)
    c.loop-reader.invariant (then_read (token_read c.loop-reader.names refl (c.loop-reader-test.ensures.yes refl)) c.in_ok-next.ensures.read)

pub conjunction-returns-clause-read : goal.conjunction-returns-clause-read
conjunction-returns-clause-read t c =
    part_read (no_more_read (conj_last _ (conditions c.loop-reader.more.items) _ c.in_ok-first_or_all.ensures) c.loop-reader.invariant (c.loop-reader-test.ensures.no refl))

pub condition-returns-in_err-first-clause-ends : goal.condition-returns-in_err-first-clause-ends
condition-returns-in_err-first-clause-ends t c = hands_on c.from_residual.result (Ends (part cond) c.args.reader.now) c.from_residual.ensures.1 (part_ends (first_ends c.in_err-first.ensures.ends))

pub condition-loop-reader-init : goal.condition-loop-reader-init
condition-loop-reader-init t c = first_read (cond_first (conditions c.new-more.result.items) (ap conditions c.new-more.ensures.items)) c.in_ok-first.ensures.read

pub condition-returns-in_err-next-clause-ends : goal.condition-returns-in_err-next-clause-ends
condition-returns-in_err-next-clause-ends t c =
    hands_on c.from_residual-in_err-next.result (Ends (part cond) c.args.reader.now) c.from_residual-in_err-next.ensures.1
    (part_ends (next_ends c.loop-reader.invariant (c.loop-reader-test.ensures.yes refl) c.in_err-next.ensures.ends))

pub condition-loop-reader-preserved : goal.condition-loop-reader-preserved
condition-loop-reader-preserved t c =
    next_read (cond_next _ c.loop-reader.more.items c.push.new.self.items c.in_ok-next.next c.in_ok-push.ensures.items)
    c.loop-reader.invariant (then_read (token_read c.loop-reader.names refl (c.loop-reader-test.ensures.yes refl)) c.in_ok-next.ensures.read)

pub condition-returns-clause-read : goal.condition-returns-clause-read
condition-returns-clause-read t c =
    part_read (no_more_read (cond_last _ (conditions c.loop-reader.more.items) _ c.in_ok-first_or_any.ensures) c.loop-reader.invariant (c.loop-reader-test.ensures.no refl))
