use Rattle.std.proofs.Common.{arith}
use Rattle.qs_graph.proofs.Lowering.{nothing_lowered, has_count, target_within, lowered_zero, lowered_more}
use Rattle.qs_graph.proofs.order.lower.Goals as goal
use Rattle.qs_graph.proofs.order.lower.Goals.{then-left-eq0+in_ok-push, else-left-eq0}

pub loop-target-init : goal.loop-target-init
loop-target-init c = nothing_lowered _ _

pub bounds-counts-target : goal.bounds-counts-target
bounds-counts-target c = target_within c.args.targets.now c.args.counts.now c.requires c.loop-target.counts c.args.order.now.items c.loop-target.order.items c.loop-target.target-index c.loop-target-test.true c.loop-target.invariant

pub overflow_sub-left : goal.overflow_sub-left
overflow_sub-left c = has_count c.args.targets.now c.args.counts.now c.requires c.loop-target.counts c.args.order.now.items c.loop-target.order.items c.loop-target.target-index c.loop-target-test.true c.loop-target.invariant

pub bounds-counts-target-in-loop-target : goal.bounds-counts-target-in-loop-target
bounds-counts-target-in-loop-target c = target_within c.args.targets.now c.args.counts.now c.requires c.loop-target.counts c.args.order.now.items c.loop-target.order.items c.loop-target.target-index c.loop-target-test.true c.loop-target.invariant

pub loop-target-preserved : goal.loop-target-preserved
loop-target-preserved c =
    let some = has_count c.args.targets.now c.args.counts.now c.requires c.loop-target.counts c.args.order.now.items c.loop-target.order.items c.loop-target.target-index c.loop-target-test.true c.loop-target.invariant in
    elim c.if-left-eq0.branch [
      | then-left-eq0+in_ok-push w ↦ lowered_zero c.args.targets.now c.args.counts.now c.requires c.loop-target.counts c.args.order.now.items c.loop-target.order.items c.loop-target.target-index
          c.loop-target-test.true c.loop-target.invariant _ (omega (arith, some)) c.if-left-eq0.order.items (let h = w.if-left-eq0.true in h) (let p = w.order-is in let q = w.in_ok-push.ensures.items in cc)
      | else-left-eq0 w ↦ lowered_more c.args.targets.now c.args.counts.now c.requires c.loop-target.counts c.args.order.now.items c.loop-target.order.items c.loop-target.target-index
          c.loop-target-test.true c.loop-target.invariant _ (omega (arith, some)) c.if-left-eq0.order.items (let h = w.if-left-eq0.false in h) (let p = w.order-is in cc)
    ]
