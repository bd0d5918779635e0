-- What the passes of a board know of its machine. (This project.)
use Rattle.std.specs.Prelude.{ℕ, ◌+◌, ◌<◌, ◌≡◌, List, ◌++◌, length}
use Rattle.qs_graph.specs.Graphs.{Arc}
use Rattle.qs_firing.specs.Work.{WorkWithTrees, IsRightFor}
use Rattle.qs_turn.specs.declared.told.Told.{Ghosts}
use Rattle.qs_turn.specs.declared.turns.Pass.{Pass}
use Rattle.qs_turn.specs.Passes.{opened_value, IsPassOf, HoldsNoTurn, KnowsBase, number_of, seen_of}
use Rattle.qs_core.specs.declared.answers.Claim.{Claim}
use Rattle.qs_core.specs.declared.answers.Claim.TheVariants as claim
use Rattle.qs_core.specs.declared.answers.Put.{Put}
use Rattle.qs_core.specs.declared.answers.Put.TheVariants as put
use Rattle.qs_core.specs.Core.{Base, CoreState, HasClaim, IsFree, HasEnded}
use Rattle.qs_core.specs.Runs.{MachineWithRoom}
use Rattle.qs_board.specs.declared.entry.Entry.{Entry}
use Rattle.qs_board.specs.declared.board.Board.{Board}
use Rattle.qs_board.specs.History.{kept_base, HoldsBehind}

-- What no call of the board changes: the rules, the graph from which its machine starts, the limit and the number of
-- seats, as it was opened with them.
abbrev pub board_base : Board → Base
board_base b = kept_base (opened_value b.turns)

module _ {g : Ghosts MachineWithRoom Entry} where
  -- The board's `open` gave the pass, and it holds no turn. Its number is that of a seat.
  abbrev pub IsSeatOf : Board → Pass MachineWithRoom Entry g → Type 0
  IsSeatOf b p =
      IsPassOf b.turns p × HoldsNoTurn p × KnowsBase kept_base p (board_base b) × (number_of p < (board_base b).seats)

  -- P holds of the state to which the history leads that the pass has seen.
  abbrev pub Sees : Board → Pass MachineWithRoom Entry g → (CoreState → Type 0) → Type 0
  Sees b p P = HoldsBehind (board_base b) (seen_of p) P

  -- There the arcs begin with these; the run has ended.
  abbrev pub SeesArcs : Board → Pass MachineWithRoom Entry g → List Arc → Type 0
  SeesArcs b p view = Sees b p (λ S. (more : List Arc) × (S.graph.arcs ≡ view ++ more))

  abbrev pub SeesEnd : Board → Pass MachineWithRoom Entry g → Type 0
  SeesEnd b p = Sees b p (λ S. HasEnded S)

  -- What the pass knows behind its claim, by the answer: the arc is claimed, none of its work is done, and the view has
  -- all arcs; the seat is free; or the run has ended.
  abbrev pub KnowsClaim : Board → Pass MachineWithRoom Entry g → List Arc → Claim → Type 0
  KnowsClaim b p view (claim.Took m) =
      (m < length view) × Sees b p (λ S. HasClaim S (number_of p) m 0) × Sees b p (λ S. S.graph.arcs ≡ view)
  KnowsClaim b p view claim.NotYet = Sees b p (λ S. IsFree (board_base b) S (number_of p))
  KnowsClaim b p view (claim.Ended e) = SeesEnd b p

  -- What the pass knows behind its publication of the k-th firing of a work, by the answer: one firing more of its
  -- claim is done, and the work is still right; or the run has ended.
  abbrev pub KnowsPut : Board → Pass MachineWithRoom Entry g → WorkWithTrees → ℕ → Put → Type 0
  KnowsPut b p work k (put.Published first) =
      Sees b p (λ S. HasClaim S (number_of p) work.arc (k + 1))
      × Sees b p (λ S. IsRightFor (board_base b).rules S.graph.arcs work)
  KnowsPut b p work k put.Over = SeesEnd b p
  KnowsPut b p work k (put.Ended e) = SeesEnd b p
