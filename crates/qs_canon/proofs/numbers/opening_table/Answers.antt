use Rattle.std.proofs.Common.{◌≡◌, ◌<◌, length, ◌∙◌, arith, rules, replicate, None, Some}
use Rattle.std.proofs.lemmas.List.{length-set}
use Rattle.qs_canon.proofs.CanonNumbers.{long_first, none_first, own_more}
use Rattle.qs_canon.proofs.numbers.opening_table.Goals as goal

pub index_mut-requires : goal.index_mut-requires
index_mut-requires c = omega (arith, c.loop-number.invariant.long, c.loop-number.table.ok.0, c.requires.within)

pub loop-number-init : goal.loop-number-init
loop-number-init c =
    let none : c.in_ok-table.table.items ≡ replicate c.args.len None = c.in_ok-table.ensures.items_if_clones_equal (search rules) in
    record {
      long = long_first c.in_ok-table.table.items c.args.len none;
      own = λ k. none_first c.in_ok-table.table.items c.args.len k none;
    }

pub loop-number-preserved : goal.loop-number-preserved
loop-number-preserved c =
    let n = c.loop-number.number in
    let h : n < length c.loop-number.table.items = omega (arith, c.loop-number.invariant.long, c.requires.within) in
    record {
      long = length-set c.loop-number.table.items n (Some n) ∙ c.loop-number.invariant.long;
      own = λ k. own_more c.loop-number.table.items n k h c.loop-number.invariant.own;
    }
