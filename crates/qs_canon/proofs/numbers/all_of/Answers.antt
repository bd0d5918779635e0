use Rattle.std.proofs.Common.{◌<◌, length, get_or, arith, None}
use Rattle.qs_canon.proofs.CanonNumbers.{is_there, all_at, all_more}
use Rattle.qs_canon.proofs.numbers.all_of.Goals as goal

pub unwrap-requires : goal.unwrap-requires
unwrap-requires c =
    let (ns, a) = c.requires in
    let i = c.loop-number.number-index in
    let h : i < length c.args.table.now = omega arith in
    is_there (get_or c.args.table.now i None) (get_or ns i 0) (all_at c.args.table.now ns i a h)

pub loop-number-preserved : goal.loop-number-preserved
loop-number-preserved c =
    let i = c.loop-number.number-index in
    let h : i < length c.args.table.now = omega arith in
    all_more c.args.table.now c.loop-number.numbers.items c.push.new.self.items i c.unwrap.result h c.loop-number.invariant c.unwrap.ensures c.in_ok-push.ensures.items
