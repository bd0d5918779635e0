use Rattle.std.proofs.Common.{◌≡◌, ◌<◌, true, false, [], ◌∷◌, ◌++◌, get_or, length, refl, arith}
use Rattle.qs_tree.proofs.Members.{in_get_or}
use Rattle.qs_clean.proofs.LinkSteps.{mark_new, mark_old}
use Rattle.qs_clean.proofs.links.mark_all.Goals as goal
use Rattle.qs_clean.proofs.links.mark_all.Goals.{then-not-marks-target+in_ok-push, else-not-marks-target}

pub bounds-marks-target : goal.bounds-marks-target
bounds-marks-target c =
    omega (arith, c.requires _ (in_get_or c.args.targets.now c.loop-target.target-index 0 (omega arith)))

pub bounds-marks-target-then-not-marks-target : goal.bounds-marks-target-then-not-marks-target
bounds-marks-target-then-not-marks-target c =
    omega (arith, c.requires _ (in_get_or c.args.targets.now c.loop-target.target-index 0 (omega arith)))

pub loop-target-preserved : goal.loop-target-preserved
loop-target-preserved c =
    let t = get_or c.args.targets.now c.loop-target.target-index 0 in
    let here : c.loop-target.target-index < length c.args.targets.now = omega arith in
    let within : get_or c.args.targets.now c.loop-target.target-index 0 < length c.loop-target.marks = omega (arith, c.requires _ (in_get_or c.args.targets.now c.loop-target.target-index 0 (omega arith))) in
    elim c.if-not-marks-target.branch [
      | then-not-marks-target+in_ok-push w ↦
          (let free : get_or c.loop-target.marks (get_or c.args.targets.now c.loop-target.target-index 0) false ≡ false = (let h = w.if-not-marks-target.true in cc) in
          let pushed : c.if-not-marks-target.waiting.items ≡ c.loop-target.waiting.items ++ get_or c.args.targets.now c.loop-target.target-index 0 ∷ [] =
          (let p = w.waiting-is in let q = w.in_ok-push.ensures.items in cc) in
          mark_new c.args.targets.now c.loop-target.target-index (get_or c.args.targets.now c.loop-target.target-index 0) c.args.marks.now c.loop-target.marks c.if-not-marks-target.marks
          c.args.waiting.now.items c.loop-target.waiting.items c.if-not-marks-target.waiting.items here refl within free w.marks-is pushed c.loop-target.invariant)
      | else-not-marks-target w ↦
          (let full : get_or c.loop-target.marks (get_or c.args.targets.now c.loop-target.target-index 0) false ≡ true = (let h = w.if-not-marks-target.false in cc) in
          let same : c.if-not-marks-target.waiting.items ≡ c.loop-target.waiting.items = (let p = w.waiting-is in cc) in
          mark_old c.args.targets.now c.loop-target.target-index (get_or c.args.targets.now c.loop-target.target-index 0) c.args.marks.now c.loop-target.marks c.if-not-marks-target.marks
          c.args.waiting.now.items c.loop-target.waiting.items c.if-not-marks-target.waiting.items here refl full w.marks-is same c.loop-target.invariant)
    ]
