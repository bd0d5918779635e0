use Rattle.std.proofs.Common.{◌≡◌}
use Rattle.qs_turn.specs.working.Seats.{IsWaiting}
use Rattle.qs_turn.proofs.turns.Turns.enter.Given as goal

abbrev pub invariant-loop : goal.invariant-loop
invariant-loop g l = IsWaiting l.pass.seat l.ticket × (l.pass.seat.me.0.known ≡ l.initial.pass.seat.me.0.known) × (l.pass.seat.table_id ≡ l.initial.pass.seat.table_id) × (l.pass.number ≡ l.initial.pass.number)
