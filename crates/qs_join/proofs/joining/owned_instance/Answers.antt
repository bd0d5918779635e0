use Rattle.std.proofs.Common.{◌∷◌, ◌++◌, [], map, ap, ◌∙◌}
use Rattle.std.specs.Arc.{arc_value}
use Rattle.std.proofs.lemmas.List.{map-append}
use Rattle.qs_pattern.proofs.InstanceLemmas.{covered_here, single_here, inst_more}
use Rattle.qs_join.proofs.joining.owned_instance.Goals as goal

pub one_instance-requires-clause-single : goal.one_instance-requires-clause-single
one_instance-requires-clause-single c =
    (single_here c.args.subst.now c.args.side.now c.loop-pattern.pattern-index c.pattern-item.result c.loop-pattern-test.true c.pattern-item.is c.loop-pattern.invariant.single).0

pub one_instance-requires-clause-covered : goal.one_instance-requires-clause-covered
one_instance-requires-clause-covered c =
    (covered_here c.args.subst.now c.args.side.now c.loop-pattern.pattern-index c.pattern-item.result c.loop-pattern-test.true c.pattern-item.is c.loop-pattern.invariant.covered).0

pub loop-pattern-preserved : goal.loop-pattern-preserved
loop-pattern-preserved c =
    let trees = c.loop-pattern.trees.items in
    record {
      trees = inst_more c.args.subst.now c.args.side.now c.loop-pattern.pattern-index c.pattern-item.result c.loop-pattern-test.true c.pattern-item.is _ _ _
          (ap (λ ts. map (λ t. arc_value t) ts) c.in_ok-push.ensures.items
          ∙ map-append (λ t. arc_value t) trees _
          ∙ ap (λ t. map (λ t. arc_value t) trees ++ t ∷ []) c.in_ok-tree-2.ensures.ok
          ∙ ap (λ ts. map (λ t. arc_value t) trees ++ ts) c.in_ok-tree.ensures)
          c.loop-pattern.invariant.trees;
      single = (single_here c.args.subst.now c.args.side.now c.loop-pattern.pattern-index c.pattern-item.result c.loop-pattern-test.true c.pattern-item.is c.loop-pattern.invariant.single).1;
      covered = (covered_here c.args.subst.now c.args.side.now c.loop-pattern.pattern-index c.pattern-item.result c.loop-pattern-test.true c.pattern-item.is c.loop-pattern.invariant.covered).1;
    }
