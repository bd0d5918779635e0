use Rattle.std.proofs.Common.{◌≡◌, ◌<◌, ◌+◌, length, get_or, take, ap, ◌∙◌, arith, length-set}
use Rattle.std.proofs.lemmas.List.{length-replicate, length-take, get_or_read}
use Rattle.qs_tree.proofs.Members.{in_get_or}
use Rattle.qs_graph.proofs.Numbers.{get_or-replicate, times-le, count_one}
use Rattle.qs_graph.proofs.ends.tally.Goals as goal

pub loop-end-init : goal.loop-end-init
loop-end-init c =
    let e = c.in_ok-counts.ensures.items_if_clones_equal (λ y h. h) in
    (λ n. ap (λ ns. get_or ns n 0) e ∙ get_or-replicate (c.args.nodes + 1) n, ap length e ∙ length-replicate (c.args.nodes + 1) 0)

-- the number that is counted has a count
within : (c : goal.After-row_known-1) → get_or c.args.ends.now c.loop-end.end-index 0 < length c.loop-end.counts.items
within c = omega (arith, c.requires.within _ (in_get_or c.args.ends.now c.loop-end.end-index 0 c.loop-end-test.true), c.loop-end.invariant.1)

pub index_mut-requires : goal.index_mut-requires
index_mut-requires c =
    omega (arith, c.requires.within _ (in_get_or c.args.ends.now c.loop-end.end-index 0 c.loop-end-test.true), c.loop-end.invariant.1, c.loop-end.counts.ok.0)

pub overflow_add-index_mut : goal.overflow_add-index_mut
overflow_add-index_mut c =
    let k = get_or c.args.ends.now c.loop-end.end-index 0 in
    let low : get_or c.args.ends.now c.loop-end.end-index 0 < length c.loop-end.counts.items =
    omega (arith, c.requires.within _ (in_get_or c.args.ends.now c.loop-end.end-index 0 c.loop-end-test.true), c.loop-end.invariant.1) in
    let read : c.index_mut.result.now ≡ get_or c.loop-end.counts.items (get_or c.args.ends.now c.loop-end.end-index 0) 0 = get_or_read c.loop-end.counts.items _ _ low c.index_mut.ensures.value 0 in
    omega (
      arith,
      read,
      c.loop-end.invariant.0 (get_or c.args.ends.now c.loop-end.end-index 0),
      times-le (get_or c.args.ends.now c.loop-end.end-index 0) (take c.loop-end.end-index c.args.ends.now),
      length-take c.loop-end.end-index c.args.ends.now,
      c.loop-end-test.true,
      c.requires.few,
    )

pub loop-end-preserved : goal.loop-end-preserved
loop-end-preserved c =
    let low : get_or c.args.ends.now c.loop-end.end-index 0 < length c.loop-end.counts.items =
    omega (arith, c.requires.within _ (in_get_or c.args.ends.now c.loop-end.end-index 0 c.loop-end-test.true), c.loop-end.invariant.1) in
    let read : c.index_mut.result.now ≡ get_or c.loop-end.counts.items (get_or c.args.ends.now c.loop-end.end-index 0) 0 = get_or_read c.loop-end.counts.items _ _ low c.index_mut.ensures.value 0 in (
      count_one c.args.ends.now c.loop-end.counts.items c.loop-end.end-index (c.index_mut.result.now + 1) c.loop-end-test.true low (ap (λ k. k + 1) read) c.loop-end.invariant.0,
      length-set c.loop-end.counts.items _ _ ∙ c.loop-end.invariant.1,
    )
