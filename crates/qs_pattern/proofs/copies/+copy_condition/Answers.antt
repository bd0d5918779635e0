use Rattle.std.proofs.Common.{◌∙◌, ap, sym, map}
use Rattle.std.proofs.lemmas.List.{take_all}
use Rattle.qs_pattern.specs.Conditions.{condition_of, all, any, combined}
use Rattle.qs_pattern.specs.working.Conditions.{conditions}
use Rattle.qs_pattern.proofs.ConditionLemmas.{condition-All, condition-Any, conditions_from_map}
use Rattle.qs_pattern.proofs.copies.+copy_condition.Goals as goal

pub copy_of_condition-returns-in_ok-copies_of_conditions-in-All : goal.copy_of_condition-returns-in_ok-copies_of_conditions-in-All
copy_of_condition-returns-in_ok-copies_of_conditions-in-All t c =
    condition-All c.in_ok-copies_of_conditions-in-All.field-0
    ∙ ap (combined all) (c.in_ok-copies_of_conditions-in-All.ensures ∙ ap conditions c.deref-in-All.ensures.value)
    ∙ sym (ap condition_of c.in-All.is ∙ condition-All c.in-All.members)

pub copy_of_condition-returns-in_ok-copies_of_conditions-in-Any : goal.copy_of_condition-returns-in_ok-copies_of_conditions-in-Any
copy_of_condition-returns-in_ok-copies_of_conditions-in-Any t c =
    condition-Any c.in_ok-copies_of_conditions-in-Any.field-0
    ∙ ap (combined any) (c.in_ok-copies_of_conditions-in-Any.ensures ∙ ap conditions c.deref-in-Any.ensures.value)
    ∙ sym (ap condition_of c.in-Any.is ∙ condition-Any c.in-Any.members)

pub copies_of_conditions-returns : goal.copies_of_conditions-returns
copies_of_conditions-returns t c =
    conditions_from_map c.loop-condition.copies.items c.args.list.now
    (c.loop-condition.invariant ∙ ap (map condition_of) (take_all c.loop-condition.condition-index c.args.list.now c.loop-condition-test.false))
