use Rattle.std.proofs.Common.{◌≡◌, ◌++◌, ◌∷◌, [], ◌&&◌, false, get_or, sym, ap, ◌∙◌, arith}
use Rattle.std.proofs.lemmas.List.{get_or_default}
use Rattle.qs_clean.specs.working.Steps.{each_pair, both}
use Rattle.qs_clean.proofs.ArcSteps.{pair_more}
use Rattle.qs_clean.proofs.arcs.in_both.Goals as goal
use Rattle.qs_clean.proofs.arcs.in_both.Goals.{then-mark, else-mark}

pub loop-n-preserved : goal.loop-n-preserved
loop-n-preserved c =
    let x = get_or c.args.first.now c.loop-n.n false in
    let y = get_or c.args.second.now c.loop-n.n false in
    let is : c.if-mark.stands ≡ (x && y) = elim c.if-mark.branch [
      | then-mark w ↦ w.stands-is ∙ ap (λ b. b && y) (sym w.if-mark.true)
      | else-mark w ↦ w.stands-is ∙ w.if-mark.false ∙ ap (λ b. b && y) (sym w.if-mark.false)
    ] in
    pair_more both c.args.first.now c.args.second.now c.loop-n.n x y c.loop-n.marks.items c.push.new.self.items (each_pair both c.args.first.now c.args.second.now)
    (omega arith) c.requires (get_or_default c.args.first.now c.loop-n.n false x (omega arith)) (get_or_default c.args.second.now c.loop-n.n false y (omega arith))
    (c.in_ok-push.ensures.items ∙ ap (λ b. c.loop-n.marks.items ++ b ∷ []) is) c.loop-n.invariant
