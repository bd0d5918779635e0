use Rattle.qs_tree.proofs.Kept.{kept-further, on_err}
use Rattle.qs_tree.proofs.Members.{in_read}
use Rattle.qs_graphtext.proofs.Written.{begins}
use Rattle.qs_graphtext.proofs.writing.append_arcs.Goals as goal

pub append_arc-requires : goal.append_arc-requires
append_arc-requires c = c.requires c.arc-item.result (in_read c.args.arcs.now c.loop-arc.arc-index c.arc-item.result c.loop-arc-test.true c.arc-item.is)

pub returns-in_err-append_arc-clause-err : goal.returns-in_err-append_arc-clause-err
returns-in_err-append_arc-clause-err c =
    on_err _ (kept-further c.args.out.now.items c.loop-arc.out.items _ (begins c.args.out.now.items _ c.loop-arc.out.items c.loop-arc.invariant) c.in_err-append_arc.ensures.err)
