use Rattle.qs_pattern.proofs.InstanceLemmas.{covered_here, inst_more}
use Rattle.qs_pattern.proofs.instances.forest_of.Goals as goal

pub append-requires : goal.append-requires
append-requires c =
    (covered_here c.args.subst.now c.args.list.now c.loop-pattern.pattern-index c.pattern-item.result c.loop-pattern-test.true c.pattern-item.is c.loop-pattern.invariant.covered).0

pub loop-pattern-preserved : goal.loop-pattern-preserved
loop-pattern-preserved c =
    record {
      trees = inst_more c.args.subst.now c.args.list.now c.loop-pattern.pattern-index c.pattern-item.result c.loop-pattern-test.true c.pattern-item.is _ _ _ c.in_ok-append.ensures c.loop-pattern.invariant.trees;
      covered = (covered_here c.args.subst.now c.args.list.now c.loop-pattern.pattern-index c.pattern-item.result c.loop-pattern-test.true c.pattern-item.is c.loop-pattern.invariant.covered).1;
    }
