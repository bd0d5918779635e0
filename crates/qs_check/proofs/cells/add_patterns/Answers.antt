use Rattle.std.proofs.Common.{◌++◌}
use Rattle.qs_pattern.specs.Patterns.{patterns}
use Rattle.qs_check.specs.Cells.{written}
use Rattle.qs_check.proofs.Written.{written_more}
use Rattle.qs_check.proofs.cells.add_patterns.Goals as goal

pub loop-pattern-preserved : goal.loop-pattern-preserved
loop-pattern-preserved c =
    written_more c.args.list.now c.loop-pattern.pattern-index c.pattern-item.result c.loop-pattern.out.items c.add_pattern.new.out.items
    (c.args.out.now.items ++ written (patterns c.args.list.now)) c.loop-pattern-test.true c.pattern-item.is c.in_ok-add_pattern.ensures c.loop-pattern.invariant
