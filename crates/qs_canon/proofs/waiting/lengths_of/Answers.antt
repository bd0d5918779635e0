use Rattle.std.proofs.Common.{◌<◌, length, ◌∷◌, [], ◌++◌, ◌∙◌, arith}
use Rattle.qs_canon.proofs.CanonNumbers.{lengths_more}
use Rattle.qs_canon.proofs.waiting.lengths_of.Goals as goal

pub loop-done-preserved : goal.loop-done-preserved
loop-done-preserved c =
    let h : c.loop-done.done-index < length c.args.fired.now = omega arith in
    c.in_ok-push.ensures.items ∙ (λ i. c.loop-done.invariant i ++ length (c.path_of.ensures i) ∷ []) ∙ lengths_more c.args.fired.now c.loop-done.done-index c.done-item.result h c.done-item.is
