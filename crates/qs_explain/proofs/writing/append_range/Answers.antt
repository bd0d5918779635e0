use Rattle.std.proofs.Common.{refl, inr, arith}
use Rattle.qs_graphtext.proofs.Written.{begins}
use Rattle.qs_tree.proofs.Kept.{kept-further, on_err}
use Rattle.qs_explain.proofs.Numbers.{range_on}
use Rattle.qs_explain.proofs.writing.append_range.Goals as goal

pub returns-in_err-append_next-clause-err : goal.returns-in_err-append_next-clause-err
returns-in_err-append_next-clause-err c =
    on_err _ (kept-further c.args.out.now.items c.loop-number.out.items _ (begins c.args.out.now.items _ c.loop-number.out.items c.loop-number.invariant.1) c.in_err-append_next.ensures.err)

pub loop-number-preserved : goal.loop-number-preserved
loop-number-preserved c = (
  inr (omega arith),
  range_on c.args.from c.loop-number.number _ c.args.out.now.items c.loop-number.out.items c.append_next.new.out.items (omega arith) refl c.loop-number.invariant.1 c.in_ok-append_next.ensures.ok,
)
