use Rattle.std.proofs.Common.{◌↔◌, ◌∙◌, IsTrue, IfOk, ap, sym, subst, rules}
use Rattle.qs_pattern.specs.declared.condition.Cond.TheFolds.{the_lemmas}
use Rattle.qs_pattern.specs.Patterns.{patterns}
use Rattle.qs_pattern.specs.Conditions.{within, outside, same, all, any, compared, combined, condition_of, Holds, IsConditionCovered}
use Rattle.qs_pattern.specs.working.Conditions.{conditions}
use Rattle.qs_pattern.proofs.ConditionLemmas.{condition-All, condition-Any}
use Rattle.qs_pattern.proofs.holding.+condition_holds.Goals as goal

pub holds-all_hold-requires : goal.holds-all_hold-requires
holds-all_hold-requires t c =
    let is = ap condition_of c.in-All.is ∙ condition-All c.in-All.members ∙ sym (ap (λ cs. combined all (conditions cs)) c.deref-in-All.ensures.value) in
    (search (rules, the_lemmas), subst (IsConditionCovered c.args.subst.now) is c.requires)

pub holds-some_holds-requires : goal.holds-some_holds-requires
holds-some_holds-requires t c =
    let is = ap condition_of c.in-Any.is ∙ condition-Any c.in-Any.members ∙ sym (ap (λ cs. combined any (conditions cs)) c.deref-in-Any.ensures.value) in
    (search (rules, the_lemmas), subst (IsConditionCovered c.args.subst.now) is c.requires)

pub holds-returns-in-Within : goal.holds-returns-in-Within
holds-returns-in-Within t c =
    subst (λ q. IfOk c.is_within.result (λ h. IsTrue h ↔ Holds q c.args.subst.now))
    ((λ i. compared within (patterns (c.deref.ensures.value i)) (patterns (c.deref-in-Within.ensures.value i))) ∙ sym (ap condition_of c.in-Within.is))
    c.is_within.ensures

pub holds-returns-in-Outside : goal.holds-returns-in-Outside
holds-returns-in-Outside t c =
    subst (λ q. IfOk c.is_outside.result (λ h. IsTrue h ↔ Holds q c.args.subst.now))
    ((λ i. compared outside (patterns (c.deref-in-Outside.ensures.value i)) (patterns (c.deref-in-Outside-2.ensures.value i))) ∙ sym (ap condition_of c.in-Outside.is))
    c.is_outside.ensures

pub holds-returns-in-Same : goal.holds-returns-in-Same
holds-returns-in-Same t c =
    subst (λ q. IfOk c.is_same.result (λ h. IsTrue h ↔ Holds q c.args.subst.now))
    ((λ i. compared same (patterns (c.deref-in-Same.ensures.value i)) (patterns (c.deref-in-Same-2.ensures.value i))) ∙ sym (ap condition_of c.in-Same.is))
    c.is_same.ensures

pub holds-returns-in-All : goal.holds-returns-in-All
holds-returns-in-All t c =
    subst (λ q. IfOk c.all_hold.result (λ h. IsTrue h ↔ Holds q c.args.subst.now))
    (ap (λ cs. combined all (conditions cs)) c.deref-in-All.ensures.value ∙ sym (ap condition_of c.in-All.is ∙ condition-All c.in-All.members))
    c.all_hold.ensures

pub holds-returns-in-Any : goal.holds-returns-in-Any
holds-returns-in-Any t c =
    subst (λ q. IfOk c.some_holds.result (λ h. IsTrue h ↔ Holds q c.args.subst.now))
    (ap (λ cs. combined any (conditions cs)) c.deref-in-Any.ensures.value ∙ sym (ap condition_of c.in-Any.is ∙ condition-Any c.in-Any.members))
    c.some_holds.ensures
