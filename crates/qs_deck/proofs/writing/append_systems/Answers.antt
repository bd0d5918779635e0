use Rattle.qs_tree.proofs.Kept.{kept-further, on_err}
use Rattle.qs_tree.proofs.Members.{in_read}
use Rattle.qs_graphtext.proofs.Written.{begins}
use Rattle.qs_deck.proofs.writing.append_systems.Goals as goal

pub append_system-requires : goal.append_system-requires
append_system-requires c = c.requires c.system-item.result (in_read c.args.systems.now c.loop-system.system-index c.system-item.result c.loop-system-test.true c.system-item.is)

pub returns-in_err-append_system-clause-err : goal.returns-in_err-append_system-clause-err
returns-in_err-append_system-clause-err c =
    on_err _ (kept-further c.args.out.now.items c.loop-system.out.items _ (begins c.args.out.now.items _ c.loop-system.out.items c.loop-system.invariant) c.in_err-append_system.ensures.err)
