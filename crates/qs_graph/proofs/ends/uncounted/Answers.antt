use Rattle.std.proofs.Common.{◌≡◌, length, arith}
use Rattle.qs_graph.proofs.Numbers.{zeros_more, zeros_same}
use Rattle.qs_graph.proofs.ends.uncounted.Goals as goal
use Rattle.qs_graph.proofs.ends.uncounted.Goals.{then-counts-number-eq0+in_ok-push, else-counts-number-eq0}

pub loop-number-preserved : goal.loop-number-preserved
loop-number-preserved c = elim c.if-counts-number-eq0.branch [
  | then-counts-number-eq0+in_ok-push w ↦ (zeros_more c.args.counts.now c.loop-number.numbers.items c.if-counts-number-eq0.numbers.items c.loop-number.number (omega arith) (let h = w.if-counts-number-eq0.true in h) (let p = w.numbers-is in let q = w.in_ok-push.ensures.items in cc) c.loop-number.invariant)
  | else-counts-number-eq0 w ↦ (zeros_same c.args.counts.now c.loop-number.numbers.items c.if-counts-number-eq0.numbers.items c.loop-number.number (let h = w.if-counts-number-eq0.false in h) (let p = w.numbers-is in cc) c.loop-number.invariant)
]

pub returns-clause-are : goal.returns-clause-are
returns-clause-are c =
    let end : c.loop-number.number ≡ length c.args.counts.now = omega (arith, c.requires.some, c.loop-number.auto.number-end, c.loop-number-test.false) in
    λ n. let h = c.loop-number.invariant.1 n in (λ i. let r = h.0 i in (r.0, omega (arith, r.1), r.2), λ r. h.1 (r.0, omega (arith, r.1), r.2))
