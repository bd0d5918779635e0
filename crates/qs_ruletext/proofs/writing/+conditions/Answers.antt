use Rattle.std.proofs.Common.{◌++◌, ap, ◌∙◌, sym, subst, append-nil, refl, length}
use Rattle.qs_tree.proofs.Kept.{kept-append, kept-further, on_err}
use Rattle.qs_pattern.specs.working.Conditions.{conditions}
use Rattle.qs_pattern.specs.working.Named.{AreConditionsNamed}
use Rattle.qs_ruletext.specs.Texts.{joined, member_texts}
use Rattle.qs_ruletext.proofs.PatternTexts.{kept_first}
use Rattle.qs_ruletext.proofs.ConditionTexts.{begun_all, begun_done, members_named, members_text, err_further}
use Rattle.qs_ruletext.proofs.writing.+conditions.Goals as goal

pub append_condition-loop-member-init : goal.append_condition-loop-member-init
append_condition-loop-member-init t c =
    record {
      written = refl;
      kept = kept_first c.args.out.now.items _ _ (sym (append-nil c.args.out.now.items));
      named = subst (λ cs. AreConditionsNamed (length c.args.names.now) (conditions cs)) (sym c.deref-member-items.ensures.value) (members_named c.in-All.members _ c.in-All.is _ c.requires);
    }

pub append_condition-returns-in_err-append_member-in-All-clause-err : goal.append_condition-returns-in_err-append_member-in-All-clause-err
append_condition-returns-in_err-append_member-in-All-clause-err t c =
    on_err _
    (kept-further _ c.extend_from_slice-in-loop-member.new.self.items _
    (kept-append _ c.loop-member.out.items _ _ c.loop-member.invariant.kept c.in_ok-extend_from_slice-in-All.ensures.items)
    c.in_err-append_member-in-All.ensures.err)

pub append_condition-returns-in_ok-extend_from_slice-in-Not-clause-err : goal.append_condition-returns-in_ok-extend_from_slice-in-Not-clause-err
append_condition-returns-in_ok-extend_from_slice-in-Not-clause-err t c =
    err_further _ c.args.out.now.items c.extend_from_slice.new.self.items _
    (kept_first c.args.out.now.items _ _ c.in_ok-extend_from_slice-in-Not.ensures.items) c.append_member.ensures.err

pub append_condition-returns-after-loop-member-clause-ok : goal.append_condition-returns-after-loop-member-clause-ok
append_condition-returns-after-loop-member-clause-ok t c =
    begun_done c.args.names.now c.tightness-outer.result c.deref-member-items.result.now c.loop-member.member-index _ _ _ _ c.loop-member-test.false c.loop-member.invariant.written
    ∙ ap (λ xs. c.args.out.now.items ++ xs)
    (begun_all c.word-word.result.now _
    ∙ ap (λ cs. joined c.word-word.result.now (member_texts c.args.names.now c.tightness-outer.result (conditions cs))) c.deref-member-items.ensures.value
    ∙ sym (members_text c.in-All.members _ c.in-All.is c.args.names.now _ _ c.word-word.ensures c.tightness-outer.ensures))

pub append_condition-returns-in_ok-extend_from_slice-in-Within-clause-err : goal.append_condition-returns-in_ok-extend_from_slice-in-Within-clause-err
append_condition-returns-in_ok-extend_from_slice-in-Within-clause-err t c =
    err_further _ c.args.out.now.items c.extend_from_slice-in-Within.new.self.items _
    (kept-append _ c.append_patterns.new.out.items _ _ (kept_first c.args.out.now.items _ _ c.in_ok-append_patterns-in-Within.ensures.ok)
    c.in_ok-extend_from_slice-in-Within.ensures.items)
    c.append_patterns-in-Within.ensures.err
