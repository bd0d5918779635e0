-- A turn of a board.
use Rattle.std.specs.Prelude.{ℕ, ◌<◌, ◌≡◌, List, length, slice_get, IfSome}
use Rattle.qs_turn.specs.declared.told.Told.{Ghosts}
use Rattle.qs_turn.specs.declared.turns.Pass.{Pass}
use Rattle.qs_turn.specs.History.{followed_by}
use Rattle.qs_turn.specs.Passes.{IsPassOf, HoldsTurn, KnowsBase, number_of}
use Rattle.qs_core.specs.Runs.{MachineWithRoom}
use Rattle.qs_board.specs.declared.entry.Entry.{Entry}
use Rattle.qs_board.specs.declared.board.Board.{Board}
use Rattle.qs_board.specs.History.{entry_seat, kept_base}
use Rattle.qs_board.specs.Seats.{board_base}

-- The history goes on from what was seen by at most one entry, of this seat.
abbrev pub GoesOn : ℕ → List Entry → List Entry → Type 0
GoesOn i seen history =
    (history ≡ followed_by seen (slice_get history (length seen)))
    × IfSome (slice_get history (length seen)) (λ e. entry_seat e ≡ i)

module _ {g : Ghosts MachineWithRoom Entry} where
  -- The board's `open` gave the pass, and it holds a turn.
  abbrev pub HoldsTurnOf : Board → Pass MachineWithRoom Entry g → Type 0
  HoldsTurnOf b p =
      IsPassOf b.turns p × HoldsTurn p × KnowsBase kept_base p (board_base b) × (number_of p < (board_base b).seats)
