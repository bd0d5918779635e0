use denote.Param.Send.{sendable}
use Rattle.std.proofs.Common.{rules, subst}
use Rattle.std.proofs.Crossing as heap
use Rattle.qs_worker.proofs.Crossing.{grammar_sync, desk_sync}
use Rattle.qs_turn.proofs.turns.Pass.TheSendSync as passes
use Rattle.qs_board.specs.Seats.{IsSeatOf, SeesEnd}
use Rattle.qs_board.proofs.Crossing.{kept_send}
use Rattle.qs_worker.proofs.Working.{still_all}
use Rattle.qs_worker.proofs.several.work_beside.Goals as goal

pub returns-clause-ended : goal.returns-clause-ended
returns-clause-ended g c =
    still_all (λ p. IsSeatOf c.args.desk.now.board p × SeesEnd c.args.desk.now.board p) c.for_each_mut.new.s c.args.passes.now.items c.args.passes.now.len
    (search rules)
    (λ k d l.
    let at = (c.for_each_mut.ensures k d (search rules)).1 in
    subst (λ p. IsSeatOf c.args.desk.now.board p × SeesEnd c.args.desk.now.board p) at.left (search rules))

pub for_each_mut-requires-sync-F : goal.for_each_mut-requires-sync-F
for_each_mut-requires-sync-F g c κs within = search (sendable, desk_sync, grammar_sync, heap.sync) depth 40

pub for_each_mut-requires-send-T : goal.for_each_mut-requires-send-T
for_each_mut-requires-send-T g c κs within = search (sendable, passes.the_send, kept_send) depth 40
