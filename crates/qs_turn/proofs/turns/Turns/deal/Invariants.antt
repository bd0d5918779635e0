use Rattle.std.proofs.Common.{◌≡◌, ◌-◌, ◌≤◌, [], vec_len, vec_capacity}
use Rattle.qs_turn.specs.working.Protocol.{seat_view, new_views}
use Rattle.qs_turn.specs.declared.protocol.Stage.TheVariants.{Idle}
use Rattle.qs_turn.specs.Passes.{AreNewPasses}
use Rattle.qs_turn.proofs.turns.Turns.deal.Given as goal

abbrev pub invariant-loop-number : goal.invariant-loop-number
invariant-loop-number g l =
    (l.seat.table_id ≡ l.self.table.shared.table_id)
    × (l.seat.me ≡ (seat_view (new_views l.passes l.self.table.shared.key.value.value (g.T.Told.history l.self.table.shared.key.value.value) l.number (l.passes - l.number)) Idle, []))
    × (vec_len l.dealt ≡ l.number)
    × (l.passes ≤ vec_capacity l.dealt)
    × AreNewPasses g.T.Told.base l.self (g.T.Told.base l.self.table.shared.key.value.value) (g.T.Told.history l.self.table.shared.key.value.value) l.dealt.items
