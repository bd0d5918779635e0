-- What tests remember of a seat of a board.
use Rattle.std.specs.Prelude.{ℕ, List}
use Rattle.qs_graph.specs.Graphs.{Arc}
use Rattle.qs_firing.specs.Work.{WorkWithTrees, IsRightFor}
use Rattle.qs_turn.specs.declared.told.Told.{Ghosts}
use Rattle.qs_turn.specs.declared.turns.Pass.{Pass}
use Rattle.qs_turn.specs.Passes.{number_of}
use Rattle.qs_core.specs.Core.{HasClaim, IsFree}
use Rattle.qs_core.specs.Runs.{MachineWithRoom}
use Rattle.qs_board.specs.declared.entry.Entry.{Entry}
use Rattle.qs_board.specs.declared.board.Board.{Board}
use Rattle.qs_board.specs.Seats.{board_base, IsSeatOf, Sees, SeesArcs}

module _ {g : Ghosts MachineWithRoom Entry} where
  -- The seat of the pass is free, and the view has the first arcs of what it has seen.
  pub record IsReady (b : Board) (p : Pass MachineWithRoom Entry g) (view : List Arc) : Type 0 where
    pub own : IsSeatOf b p
    pub arcs : SeesArcs b p view
    pub free : Sees b p (λ S. IsFree (board_base b) S (number_of p))

  -- The seat of the pass has claimed the arc of this work, with its first k firings done.
  pub record IsAt (b : Board) (p : Pass MachineWithRoom Entry g) (view : List Arc) (work : WorkWithTrees)
      (k : ℕ) : Type 0 where
    pub own : IsSeatOf b p
    pub arcs : SeesArcs b p view
    pub claim : Sees b p (λ S. HasClaim S (number_of p) work.arc k)
    pub right : Sees b p (λ S. IsRightFor (board_base b).rules S.graph.arcs work)
