-- Histories of machines: the steps that were made, and then the stop. (This project.)
use Rattle.std.specs.Prelude.{ℕ, ◌≡◌, List, [], ◌∷◌, ◌++◌, map, Option, Some, None}
use Rattle.qs_core.specs.declared.step.Step.{Step}
use Rattle.qs_core.specs.declared.step.Stop.{Stop}
use Rattle.qs_core.specs.declared.step.Stop.TheVariants as stop
use Rattle.qs_core.specs.Core.{Base, CoreState}
use Rattle.qs_core.specs.Runs.{Machine, MachineWithRoom, IsReplayed, seat_of}
use Rattle.qs_board.specs.declared.entry.Entry.{Entry}
use Rattle.qs_board.specs.declared.entry.Entry.TheVariants as entry

-- The seat whose entry it is. It is the number of the pass that the entry names.
abbrev pub stop_seat : Stop → ℕ
stop_seat (stop.Over i) = i
stop_seat (stop.Halted i) = i

abbrev pub entry_seat : Entry → ℕ
entry_seat (entry.Step v) = seat_of v
entry_seat (entry.Stop s) = stop_seat s

-- The entries of these steps, and of a stop behind them, where there is one.
abbrev pub stop_entry : Option Stop → List Entry
stop_entry None = []
stop_entry (Some s) = entry.Stop s ∷ []

abbrev pub entries : List Step → Option Stop → List Entry
entries journal last = map (λ v. entry.Step v) journal ++ stop_entry last

-- The history of a machine.
abbrev pub history_of : Machine → List Entry
history_of M = entries M.journal M.state.stop

-- What turns know of a machine that lies behind them: what no step changes, and its history.
abbrev pub kept_base : MachineWithRoom → Base
kept_base k = k.machine.base

abbrev pub kept_history : MachineWithRoom → List Entry
kept_history k = history_of k.machine

-- M is the machine behind this history: it was opened with this base, and this is its history, which leads to its
-- state.
pub record IsBehind (B : Base) (history : List Entry) (M : Machine) : Type 0 where
  pub base : M.base ≡ B
  pub replayed : IsReplayed M
  pub history_is : history_of M ≡ history

-- P holds of the state to which this history leads.
abbrev pub HoldsBehind : Base → List Entry → (CoreState → Type 0) → Type 0
HoldsBehind B history P = (M : Machine) → IsBehind B history M → P M.state
