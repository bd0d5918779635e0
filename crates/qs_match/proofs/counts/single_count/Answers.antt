use Rattle.std.proofs.Common.{arith}
use Rattle.qs_match.proofs.Sides.{singles-least, singles-drop, singles-end}
use Rattle.qs_match.proofs.counts.single_count.Goals as goal

pub overflow_add-count : goal.overflow_add-count
overflow_add-count c =
    let _most = singles-least c.args.side.now in
    let here = singles-drop c.args.side.now c.loop-pattern.pattern-index c.pattern-item.result c.loop-pattern-test.true c.pattern-item.is in
    omega (arith, c.loop-pattern.invariant, c.tree_count-count.ensures)

pub loop-pattern-preserved : goal.loop-pattern-preserved
loop-pattern-preserved c =
    let here = singles-drop c.args.side.now c.loop-pattern.pattern-index c.pattern-item.result c.loop-pattern-test.true c.pattern-item.is in
    omega (arith, c.loop-pattern.invariant, c.tree_count-count.ensures)

pub returns : goal.returns
returns c =
    let end = singles-end c.args.side.now c.loop-pattern.pattern-index c.loop-pattern-test.false in
    omega (arith, c.loop-pattern.invariant)
