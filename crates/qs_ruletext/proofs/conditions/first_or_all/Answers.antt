use Rattle.std.proofs.Common.{◌≤◌, sym, ap, ◌∙◌, length, arith}
use Rattle.std.proofs.lemmas.Bool.Decides.{nat_tests}
use Rattle.qs_pattern.specs.Conditions.{all, combined, condition_of}
use Rattle.qs_pattern.specs.working.Conditions.{conditions}
use Rattle.qs_pattern.proofs.ConditionLemmas.{condition-All}
use Rattle.qs_ruletext.proofs.ConditionSteps.{all_of_several}
use Rattle.qs_ruletext.proofs.conditions.first_or_all.Goals as goal

pub returns : goal.returns
returns c =
    let some : 1 ≤ length c.args.more.items = grind (arith, nat_tests, c.is_empty.ensures, c.if-is_empty.false, c.args.more.ok.0) in
    condition-All c.insert.new.self ∙ ap (combined all) (ap conditions c.in_ok-insert.ensures.items) ∙ sym (all_of_several (condition_of c.args.first) c.args.more.items some)
