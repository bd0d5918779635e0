use Rattle.std.proofs.Common.{◌<◌, length, get_or, [], arith, sym, ◌∙◌}
use Rattle.qs_tree.proofs.Members.{in_get_or, at_place}
use Rattle.qs_canon.proofs.CanonCounts.{enough_left, counted_arc, users_there}
use Rattle.qs_canon.proofs.waiting.pass.Goals as goal

pub bounds-users-arc : goal.bounds-users-arc
bounds-users-arc c =
    let h : c.loop-arc.arc-index < length c.args.arcs.now = omega arith in
    c.requires.arcs (get_or c.args.arcs.now c.loop-arc.arc-index 0) (in_get_or c.args.arcs.now c.loop-arc.arc-index 0 h)

pub count_down-requires : goal.count_down-requires
count_down-requires c =
    let i = c.loop-arc.arc-index in
    let k = get_or c.args.arcs.now i 0 in
    let h : i < length c.args.arcs.now = omega arith in
    let within = c.requires.arcs k (in_get_or c.args.arcs.now i 0 h) in
    let is = users_there c.args.users.now k c.index-users-arc.result (at_place c.args.users.now k c.index-users-arc.result within c.index-users-arc.is) ∙ sym c.deref.ensures.value in
    enough_left c.args.users.now c.args.arcs.now i h c.deref.result.now is c.args.missing.now c.loop-arc.missing [] c.loop-arc.ready.items c.requires.enough c.loop-arc.invariant

pub loop-arc-preserved : goal.loop-arc-preserved
loop-arc-preserved c =
    let i = c.loop-arc.arc-index in
    let k = get_or c.args.arcs.now i 0 in
    let h : i < length c.args.arcs.now = omega arith in
    let within = c.requires.arcs k (in_get_or c.args.arcs.now i 0 h) in
    let is = users_there c.args.users.now k c.index-users-arc.result (at_place c.args.users.now k c.index-users-arc.result within c.index-users-arc.is) ∙ sym c.deref.ensures.value in
    counted_arc c.args.users.now c.args.arcs.now i h c.deref.result.now is c.args.missing.now c.loop-arc.missing c.count_down.new.missing [] c.loop-arc.ready.items c.count_down.new.ready.items
    c.loop-arc.invariant c.in_ok-count_down.ensures
