use Rattle.std.proofs.Common.{◌++◌, Ok, true, false, List, sym, ◌∙◌, ap, subst, arith}
use Rattle.std.proofs.lemmas.List.{take_all, length-take-le}
use Rattle.qs_tree.specs.Lists.{◌∈◌}
use Rattle.qs_tree.proofs.Members.{in_read}
use Rattle.qs_pattern.specs.Rules.{Rule, IsAccepted}
use Rattle.qs_levels.specs.Tops.{HasLabelsAtTop}
use Rattle.qs_levels.specs.working.Tops.{tops_of_side, tops_from, HaveLabelsAtTops}
use Rattle.qs_levels.proofs.TopLists.{one_more_rule, one_more_tops, one_more_listed}
use Rattle.qs_levels.proofs.tops.tops_of.Goals as goal

pub returns-then-not-branch-clause-none : goal.returns-then-not-branch-clause-none
returns-then-not-branch-clause-none c = λ h.
    c.in_ok-add_side.ensures.no (ap Ok c.if-not-branch.true)
    (subst HasLabelsAtTop (sym c.left.ensures.value) (h.left c.index-rules-number.result (in_read c.args.rules.now c.loop-number.number c.index-rules-number.result c.loop-number-test.true c.index-rules-number.is)))

pub returns-then-not-branch-2-clause-none : goal.returns-then-not-branch-2-clause-none
returns-then-not-branch-2-clause-none c = λ h.
    c.in_ok-add_side-2.ensures.no (ap Ok c.if-not-branch-2.true)
    (subst HasLabelsAtTop (sym c.right.ensures.value) (h.right c.index-rules-number.result (in_read c.args.rules.now c.loop-number.number c.index-rules-number.result c.loop-number-test.true c.index-rules-number.is)))

pub loop-number-init : goal.loop-number-init
loop-number-init c = (record { left = λ r i. absurd i; right = λ r i. absurd i }, c.new-tops.ensures.items, λ r i. absurd i)

pub loop-number-preserved : goal.loop-number-preserved
loop-number-preserved c =
    let left : HasLabelsAtTop c.index-rules-number.result.left = subst HasLabelsAtTop c.left.ensures.value (c.in_ok-add_side.ensures.yes (ap Ok c.if-not-branch.false)) in
    let right : HasLabelsAtTop c.index-rules-number.result.right = subst HasLabelsAtTop c.right.ensures.value (c.in_ok-add_side-2.ensures.yes (ap Ok c.if-not-branch-2.false)) in (
      one_more_tops c.args.rules.now c.loop-number.number c.index-rules-number.result c.loop-number-test.true c.index-rules-number.is c.loop-number.invariant.0 left right,
      one_more_listed c.args.rules.now c.loop-number.number c.index-rules-number.result c.loop-number-test.true c.index-rules-number.is
          c.loop-number.tops.items c.add_side.new.tops.items c.add_side-in-loop-number.new.tops.items c.loop-number.invariant.1
          (c.in_ok-add_side.ensures.tops (ap Ok c.if-not-branch.false) ∙ ap (λ side. c.loop-number.tops.items ++ tops_of_side c.loop-number.number false side) c.left.ensures.value)
          (c.in_ok-add_side-2.ensures.tops (ap Ok c.if-not-branch-2.false) ∙ ap (λ side. c.add_side.new.tops.items ++ tops_of_side c.loop-number.number true side) c.right.ensures.value)
          (length-take-le c.loop-number.number c.args.rules.now (omega arith)),
      one_more_rule c.args.rules.now c.loop-number.number c.index-rules-number.result c.loop-number-test.true c.index-rules-number.is IsAccepted c.loop-number.invariant.2 c.left.ensures.accepted,
    )

pub returns-clause-none : goal.returns-clause-none
returns-clause-none c = subst HaveLabelsAtTops (take_all c.loop-number.number c.args.rules.now (omega arith)) c.loop-number.invariant.0

pub returns-clause-tops : goal.returns-clause-tops
returns-clause-tops c = c.loop-number.invariant.1 ∙ ap (tops_from 0) (take_all c.loop-number.number c.args.rules.now (omega arith))

pub returns-clause-accepted : goal.returns-clause-accepted
returns-clause-accepted c = subst (λ (rules : List Rule). (rule : Rule) → rule ∈ rules → IsAccepted rule) (take_all c.loop-number.number c.args.rules.now (omega arith)) c.loop-number.invariant.2
