use Rattle.std.proofs.Common.{get_or, refl, arith}
use Rattle.qs_graphtext.proofs.Written.{begins}
use Rattle.qs_tree.proofs.Kept.{kept-further, on_err}
use Rattle.qs_explain.proofs.Numbers.{numbers_on}
use Rattle.qs_explain.proofs.writing.append_numbers.Goals as goal

pub returns-in_err-append_next-clause-err : goal.returns-in_err-append_next-clause-err
returns-in_err-append_next-clause-err c =
    on_err _ (kept-further c.args.out.now.items c.loop-place.out.items _ (begins c.args.out.now.items _ c.loop-place.out.items c.loop-place.invariant) c.in_err-append_next.ensures.err)

pub loop-place-preserved : goal.loop-place-preserved
loop-place-preserved c =
    numbers_on c.args.numbers.now c.loop-place.place (get_or c.args.numbers.now c.loop-place.place 0) _ c.args.out.now.items c.loop-place.out.items c.append_next.new.out.items (omega arith) refl refl c.loop-place.invariant c.in_ok-append_next.ensures.ok
