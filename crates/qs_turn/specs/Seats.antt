-- Seats that have drawn no ticket, and seats that are served.
use Rattle.std.specs.Prelude.{◌≡◌, ℕ, Option, None, [], ◌∷◌}
use Rattle.atomic_table.specs.declared.shared.Seat.{Seat}
use Rattle.qs_turn.specs.declared.protocol.SeatView.{SeatView}
use Rattle.qs_turn.specs.declared.protocol.Stage.TheVariants.{Idle, Served}

-- A seat of the table of a `Turns`.
abbrev pub TurnSeat : Type 0 → Type 0 → Type 0
TurnSeat T E = Seat (Option T) (SeatView T E)

module _ {T E : Type 0} where
  -- It has no ticket, and no slot is out with it.
  abbrev pub IsIdle : TurnSeat T E → Type 0
  IsIdle seat = (seat.me.0.stage ≡ Idle) × (seat.me.1 ≡ [])

  -- Its ticket is served, and the slot is out with it. The value is in the caller's hands, so the slot is empty.
  abbrev pub IsServed : TurnSeat T E → Type 0
  IsServed seat = ((k : ℕ) × (seat.me.0.stage ≡ Served k)) × (seat.me.1 ≡ (0, None) ∷ [])
