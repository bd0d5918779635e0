use Rattle.std.proofs.Common.{◌++◌, sym, ◌∙◌, ap}
use Rattle.qs_pattern.specs.working.Conditions.{conditions}
use Rattle.qs_check.proofs.Written.{written_conditions, conditions_done, written_members}
use Rattle.qs_check.proofs.cells.+add_condition.Goals as goal

pub returns-after-loop-member : goal.returns-after-loop-member
returns-after-loop-member t c =
    let members = c.deref-member-items.result.now in
    conditions_done members c.loop-member.member-index c.loop-member.out.items (c.args.out.now.items ++ written_conditions (conditions members)) c.loop-member-test.false c.loop-member.invariant
    ∙ ap (λ cs. c.args.out.now.items ++ written_conditions (conditions cs)) c.deref-member-items.ensures.value
    ∙ ap (λ cs. c.args.out.now.items ++ cs) (sym (written_members c.args.condition.now c.in-All.members c.in-All.is))
