use Rattle.std.proofs.Common.{◌<◌, length, get_or, arith, None}
use Rattle.qs_canon.specs.working.CanonNumbers.{table_of}
use Rattle.qs_canon.proofs.CanonNumbers.{table_within, is_there, numbered_at, numbered_more}
use Rattle.qs_canon.proofs.numbers.numbers_of.Goals as goal

pub bounds-table-arc : goal.bounds-table-arc
bounds-table-arc c =
    let (ls, a) = c.requires in
    let i = c.loop-arc.arc-index in
    let h : i < length c.args.arcs.now = omega arith in
    table_within c.args.table.now (get_or c.args.arcs.now i 0) (get_or ls i 0) (numbered_at (table_of c.args.table.now) c.args.arcs.now ls i a h)

pub unwrap-requires : goal.unwrap-requires
unwrap-requires c =
    let (ls, a) = c.requires in
    let i = c.loop-arc.arc-index in
    let h : i < length c.args.arcs.now = omega arith in
    is_there (get_or c.args.table.now (get_or c.args.arcs.now i 0) None) (get_or ls i 0) (numbered_at (table_of c.args.table.now) c.args.arcs.now ls i a h)

pub loop-arc-preserved : goal.loop-arc-preserved
loop-arc-preserved c =
    let i = c.loop-arc.arc-index in
    let h : i < length c.args.arcs.now = omega arith in
    numbered_more (table_of c.args.table.now) c.args.arcs.now c.loop-arc.numbers.items c.push.new.self.items i c.unwrap.result h c.loop-arc.invariant c.unwrap.ensures c.in_ok-push.ensures.items
