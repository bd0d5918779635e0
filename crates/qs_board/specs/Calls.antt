-- What a call of a board finds, answers and enters. (This project.)
use Rattle.std.specs.Prelude.{ℕ, ◌≡◌, List}
use Rattle.qs_graph.specs.Graphs.{Arc}
use Rattle.qs_firing.specs.Work.{WorkWithTrees}
use Rattle.qs_turn.specs.History.{ContinuedByOthers}
use Rattle.qs_core.specs.declared.answers.Claim.{Claim}
use Rattle.qs_core.specs.declared.answers.Claim.TheVariants as claim
use Rattle.qs_core.specs.declared.answers.Put.{Put}
use Rattle.qs_core.specs.Core.{Base}
use Rattle.qs_core.specs.Runs.{Machine, IsReplayed}
use Rattle.qs_core.specs.Answers.{IsClaimed, IsPublished, IsHalted}
use Rattle.qs_board.specs.declared.entry.Entry.{Entry}
use Rattle.qs_board.specs.History.{entry_seat, history_of, IsBehind}

-- What seat i finds, whose pass has seen this history: a machine that was opened with this base, whose history leads to
-- its state and begins with what the pass has seen. What follows was entered by others.
pub record Finds (B : Base) (i : ℕ) (seen : List Entry) (M : Machine) : Type 0 where
  pub base : M.base ≡ B
  pub replayed : IsReplayed M
  pub others : ContinuedByOthers entry_seat B.seats i seen (history_of M)

-- Where an arc was taken, the view has all of these arcs.
abbrev pub HasAllIfTook : Claim → List Arc → List Arc → Type 0
HasAllIfTook (claim.Took m) arcs view = view ≡ arcs
HasAllIfTook claim.NotYet arcs view = Unit {0}
HasAllIfTook (claim.Ended e) arcs view = Unit {0}

-- The call finds a machine, gives the answer that it gives to the seat's claim, and leaves what becomes of it. The pass
-- has then seen the history of what is left, and where an arc was taken the view has all arcs of the machine found.
pub record Claims (B : Base) (i : ℕ) (seen : List Entry) (answer : Claim) (now : List Entry) (view : List Arc) : Type 0
  where
    pub found : Machine
    pub finds : Finds B i seen found
    pub left : Machine
    pub answered : IsClaimed found i answer left
    pub entered : IsBehind B now left
    pub all : HasAllIfTook answer found.state.graph.arcs view

-- The same for the publication of the k-th firing, from 0, of this work, but for the view.
pub record Publishes (B : Base) (i : ℕ) (seen : List Entry) (work : WorkWithTrees) (k : ℕ) (answer : Put)
    (now : List Entry) : Type 0 where
  pub found : Machine
  pub finds : Finds B i seen found
  pub left : Machine
  pub answered : IsPublished found i work k answer left
  pub entered : IsBehind B now left

-- The same for a halt, which has no answer.
pub record Halts (B : Base) (i : ℕ) (seen now : List Entry) : Type 0 where
  pub found : Machine
  pub finds : Finds B i seen found
  pub left : Machine
  pub answered : IsHalted found i left
  pub entered : IsBehind B now left

-- The call finds a machine and leaves it as it is. The pass has then seen its history.
pub record EntersNothing (B : Base) (i : ℕ) (seen now : List Entry) : Type 0 where
  pub found : Machine
  pub finds : Finds B i seen found
  pub entered : IsBehind B now found
