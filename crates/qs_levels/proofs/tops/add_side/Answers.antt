use Rattle.std.proofs.Common.{◌∙◌, sym}
use Rattle.qs_tree.proofs.Members.{at_place}
use Rattle.qs_levels.proofs.Sides.{no_top}
use Rattle.qs_levels.proofs.TopLists.{one_more_has, one_more_top}
use Rattle.qs_levels.proofs.tops.add_side.Goals as goal

pub returns-in_default-clause-no : goal.returns-in_default-clause-no
returns-in_default-clause-no c = λ _.
    no_top c.args.side.now c.loop-pattern.pattern-index c.pattern-item.result (at_place c.args.side.now c.loop-pattern.pattern-index c.pattern-item.result c.loop-pattern-test.true c.pattern-item.is)
    (sym c.top_label.ensures ∙ c.in_default.is)

pub loop-pattern-preserved : goal.loop-pattern-preserved
loop-pattern-preserved c =
    let label = sym c.top_label.ensures ∙ c.in-Some.is in (
      one_more_has c.args.rule c.args.right c.args.side.now c.loop-pattern.pattern-index c.pattern-item.result c.in-Some.label c.loop-pattern-test.true c.pattern-item.is label c.loop-pattern.invariant.0,
      one_more_top c.args.rule c.args.right c.args.side.now c.loop-pattern.pattern-index c.pattern-item.result c.in-Some.label c.loop-pattern-test.true c.pattern-item.is label
          c.args.tops.now.items c.loop-pattern.tops.items c.push.new.self.items c.in_ok-push.ensures.items c.loop-pattern.invariant.1,
    )
