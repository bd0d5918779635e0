use Rattle.std.proofs.Common.{◌≡◌, ◌++◌, [], All, vec_len}
use Rattle.qs_turn.specs.declared.protocol.Stage.TheVariants.{Idle}
use Rattle.qs_turn.specs.Passes.{IsPassOf, HoldsNoTurn}
use Rattle.qs_turn.proofs.Closing.{all_known}
use Rattle.qs_turn.proofs.turns.Turns.close.Given as goal

abbrev pub invariant-loop-pass : goal.invariant-loop-pass
invariant-loop-pass g l =
    (l.seat.table_id ≡ l.table.shared.table_id)
    × ((l.seat.me.0.stage ≡ Idle) × (l.seat.me.1 ≡ []))
    × (all_known l.passes.items ++ l.seat.me.0.known ≡ all_known l.fn.passes.items)
    × All (λ p. IsPassOf l.fn.self p × HoldsNoTurn p) l.passes.items

abbrev pub decreases-loop-pass : goal.decreases-loop-pass
decreases-loop-pass g l = vec_len l.passes
