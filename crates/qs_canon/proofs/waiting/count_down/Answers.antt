use Rattle.std.proofs.Common.{◌-◌, ◌<◌, length, get_or, refl, inl, inr, arith}
use Rattle.qs_canon.proofs.CanonCounts.{left_to_count, counted_next, count_within}
use Rattle.qs_canon.proofs.waiting.count_down.Goals as goal
use Rattle.qs_canon.proofs.waiting.count_down.Goals.{then-left-eq0+in_ok-push, else-left-eq0}

pub bounds-missing-user : goal.bounds-missing-user
bounds-missing-user c =
    let h : c.loop-user.user-index < length c.args.users.now = omega arith in
    count_within c.loop-user.missing (get_or c.args.users.now c.loop-user.user-index 0) (left_to_count c.args.missing.now c.args.users.now c.loop-user.missing c.args.ready.now.items c.loop-user.ready.items c.loop-user.user-index h c.requires c.loop-user.invariant)

pub overflow_sub-left : goal.overflow_sub-left
overflow_sub-left c =
    let h : c.loop-user.user-index < length c.args.users.now = omega arith in
    let some = left_to_count c.args.missing.now c.args.users.now c.loop-user.missing c.args.ready.now.items c.loop-user.ready.items c.loop-user.user-index h c.requires c.loop-user.invariant in
    omega (arith, some)

pub bounds-missing-user-in-loop-user : goal.bounds-missing-user-in-loop-user
bounds-missing-user-in-loop-user c =
    let h : c.loop-user.user-index < length c.args.users.now = omega arith in
    count_within c.loop-user.missing (get_or c.args.users.now c.loop-user.user-index 0) (left_to_count c.args.missing.now c.args.users.now c.loop-user.missing c.args.ready.now.items c.loop-user.ready.items c.loop-user.user-index h c.requires c.loop-user.invariant)

pub loop-user-preserved : goal.loop-user-preserved
loop-user-preserved c =
    let users = c.args.users.now in
    let i = c.loop-user.user-index in
    let x = get_or users i 0 in
    let left = get_or c.loop-user.missing x 0 - 1 in
    let h : i < length users = omega arith in
    let some = left_to_count c.args.missing.now users c.loop-user.missing c.args.ready.now.items c.loop-user.ready.items i h c.requires c.loop-user.invariant in
    counted_next c.args.missing.now users c.loop-user.missing c.args.ready.now.items c.loop-user.ready.items i h c.requires c.loop-user.invariant left c.if-left-eq0.ready.items (omega (arith, some))
    (elim c.if-left-eq0.branch [
      | then-left-eq0+in_ok-push w ↦ inl (omega (arith, w.if-left-eq0.true), rw w.ready-is w.in_ok-push.ensures.items)
      | else-left-eq0 w ↦ inr (omega (arith, w.if-left-eq0.false), rw w.ready-is refl)
    ])
