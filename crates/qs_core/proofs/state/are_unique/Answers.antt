use Rattle.std.proofs.Common.{ap}
use Rattle.std.specs.Prelude.{◌&&◌}
use Rattle.qs_pattern.specs.Rules.{IsAccepted}
use Rattle.qs_tree.proofs.Members.{at_place}
use Rattle.qs_core.proofs.Taken.{one_more, all_taken}
use Rattle.qs_core.proofs.Marked.{one_marked, all_marked}
use Rattle.qs_core.proofs.state.are_unique.Goals as goal

pub loop-rule-preserved : goal.loop-rule-preserved
loop-rule-preserved c =
    let at = at_place c.args.rules.now c.loop-rule.rule-index c.rule-item.result c.loop-rule-test.true c.rule-item.is in
    record {
      unique =
          one_marked c.args.rules.now c.loop-rule.rule-index c.rule-item.result c.loop-rule.all (c.loop-rule.all && c.unique-all.result) at c.loop-rule.invariant.unique
          (ap (λ b. c.loop-rule.all && b) c.unique-all.ensures.value);
      accepted = one_more IsAccepted c.args.rules.now c.loop-rule.rule-index c.rule-item.result at c.loop-rule.invariant.accepted c.unique-all.ensures.accepted;
    }

pub returns : goal.returns
returns c = record {
  value = all_marked c.args.rules.now c.loop-rule.rule-index c.loop-rule.all c.loop-rule-test.false c.loop-rule.invariant.unique;
  accepted = all_taken IsAccepted c.args.rules.now c.loop-rule.rule-index c.loop-rule-test.false c.loop-rule.invariant.accepted;
}
