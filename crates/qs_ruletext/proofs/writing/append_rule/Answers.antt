use Rattle.std.proofs.Common.{◌≡◌, length, take}
use Rattle.qs_tree.proofs.Kept.{kept-append, kept-further, on_err}
use Rattle.qs_ruletext.proofs.PatternTexts.{kept_first}
use Rattle.qs_ruletext.proofs.writing.append_rule.Goals as goal
use Rattle.qs_ruletext.proofs.writing.append_rule.Goals.{In_ok-extend_from_slice}

-- what stood in `out` at first still stands there behind ` == `
kept_equals : (c : In_ok-extend_from_slice) → take (length c.args.out.now.items) c.extend_from_slice.new.self.items ≡ c.args.out.now.items
kept_equals c =
    kept-append _ c.append_patterns.new.out.items _ _ (kept_first c.args.out.now.items _ _ c.in_ok-append_patterns.ensures.ok) c.in_ok-extend_from_slice.ensures.items

pub returns-in_err-append_patterns-2-clause-err : goal.returns-in_err-append_patterns-2-clause-err
returns-in_err-append_patterns-2-clause-err c =
    on_err _
    (kept-further _ c.extend_from_slice.new.self.items _
    (kept-append _ c.append_patterns.new.out.items _ _ (kept_first c.args.out.now.items _ _ c.in_ok-append_patterns.ensures.ok) c.in_ok-extend_from_slice.ensures.items)
    c.in_err-append_patterns-2.ensures.err)

pub returns-in_err-append_condition-clause-err : goal.returns-in_err-append_condition-clause-err
returns-in_err-append_condition-clause-err c =
    on_err _
    (kept-further _ c.extend_from_slice-in-Some.new.self.items _
    (kept-append _ c.append_patterns-2.new.out.items _ _
    (kept-append _ c.extend_from_slice.new.self.items _ _
    (kept-append _ c.append_patterns.new.out.items _ _ (kept_first c.args.out.now.items _ _ c.in_ok-append_patterns.ensures.ok) c.in_ok-extend_from_slice.ensures.items)
    c.in_ok-append_patterns-2.ensures.ok)
    c.in_ok-extend_from_slice-2.ensures.items)
    c.in_err-append_condition.ensures.err)
