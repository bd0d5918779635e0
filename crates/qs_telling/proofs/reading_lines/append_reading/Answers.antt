use Rattle.std.proofs.Common.{get_or, refl, arith}
use Rattle.qs_tree.proofs.Members.{in_read}
use Rattle.qs_telling.proofs.ReadingLines.{reading_on, reading_done, within_arcs}
use Rattle.qs_telling.proofs.reading_lines.append_reading.Goals as goal

pub bounds-arcs-arc : goal.bounds-arcs-arc
bounds-arcs-arc c = within_arcs c.args.arcs.now c.args.path.now c.loop-place.place c.requires.within (omega arith)

pub append_next-requires : goal.append_next-requires
append_next-requires c =
    c.requires.named c.index-arcs-arc.result (in_read c.args.arcs.now _ c.index-arcs-arc.result (within_arcs c.args.arcs.now c.args.path.now c.loop-place.place c.requires.within (omega arith)) c.index-arcs-arc.is)

pub loop-place-preserved : goal.loop-place-preserved
loop-place-preserved c =
    reading_on c.args.names.now c.args.arcs.now c.args.path.now c.loop-place.place (get_or c.args.path.now c.loop-place.place 0) c.index-arcs-arc.result _ c.args.out.now.items c.loop-place.out.items c.append_next.new.out.items
    (omega arith) refl c.index-arcs-arc.is c.requires.within refl c.loop-place.invariant c.in_ok-append_next.ensures

pub returns : goal.returns
returns c =
    reading_done c.args.names.now c.args.arcs.now c.args.path.now c.loop-place.place c.args.out.now.items c.loop-place.out.items _ (omega arith) c.loop-place.invariant c.in_ok-push.ensures.items
