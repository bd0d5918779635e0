-- What passes of a board know as a test goes on.
use Rattle.std.proofs.Common.{◌≡◌, ℕ, ◌<◌, List, [], ◌∷◌, ◌++◌, length, refl, sym, ap, ◌∙◌, subst, All}
use Rattle.std.specs.Prelude.{Option, Some}
use Rattle.qs_pattern.specs.Rules.{Rule}
use Rattle.qs_graph.specs.Graphs.{Arc}
use Rattle.qs_firing.specs.Work.{WorkWithTrees, IsRightFor}
use Rattle.qs_turn.specs.declared.told.Told.{Ghosts}
use Rattle.qs_turn.specs.declared.turns.Pass.{Pass}
use Rattle.qs_turn.specs.Passes.{number_of, seen_of, turns_of}
use Rattle.qs_turn.proofs.Closing.{all_front}
use Rattle.qs_core.specs.declared.answers.Claim.TheVariants as claim
use Rattle.qs_core.specs.Core.{HasClaim, IsFree}
use Rattle.qs_core.specs.Runs.{MachineWithRoom}
use Rattle.qs_board.specs.declared.entry.Entry.{Entry}
use Rattle.qs_board.specs.declared.board.Board.{Board}
use Rattle.qs_board.specs.History.{HoldsBehind}
use Rattle.qs_board.specs.Seats.{board_base, IsSeatOf, Sees, SeesArcs, KnowsClaim}
use Rattle.qs_board.proofs.Staying.{free_behind, free_opened}
use Rattle.qs_edge_tests.specs.working.Boards.{IsReady, IsAt}

module _ {g : Ghosts MachineWithRoom Entry} (b : Board) where
  -- a new pass, which stands last in the list
  pub new_last : (all left : List (Pass MachineWithRoom Entry g)) (p : Pass MachineWithRoom Entry g) → all ≡ left ++ p ∷ [] → All (λ p. IsSeatOf b p × (seen_of p ≡ []) × (turns_of p ≡ 0)) all
      → All (λ p. IsSeatOf b p × (seen_of p ≡ []) × (turns_of p ≡ 0)) left × IsReady b p []
  new_last all left p e new =
      let P = λ (p : Pass MachineWithRoom Entry g). IsSeatOf b p × (seen_of p ≡ []) × (turns_of p ≡ 0) in
      let (rest, last) = all_front P left p (subst (λ ps. All P ps) e new) in (
        rest,
        record {
          own = last.0;
          arcs = λ M m. (M.state.graph.arcs, refl);
          free = subst (λ (h : List Entry). HoldsBehind (board_base b) h (λ S. IsFree (board_base b) S (number_of p))) (sym last.1) (free_opened (board_base b) (number_of p));
        },
      )

  module _ (p : Pass MachineWithRoom Entry g) (view : List Arc) where
    pub taken : (R : List Rule) (work : WorkWithTrees) (m : ℕ) → IsSeatOf b p → SeesArcs b p view → KnowsClaim b p view (claim.Took m) → (board_base b).rules ≡ R → work.arc ≡ m → IsRightFor R view work → IsAt b p view work 0
    taken R work m own arcs knows rules arc right = record {
      own = own;
      arcs = arcs;
      claim = λ M behind. subst (λ n. HasClaim M.state (number_of p) n 0) (sym arc) (knows.1 M behind);
      right = λ M behind. subst (λ (xs : List Arc). IsRightFor (board_base b).rules xs work) (sym (knows.2 M behind)) (subst (λ (Q : List Rule). IsRightFor Q view work) (sym rules) right);
    }

    pub all_done : (work : WorkWithTrees) (k : ℕ) → k ≡ length work.made → IsAt b p view work k → IsReady b p view
    all_done work k all at = record { own = at.own; arcs = at.arcs; free = free_behind (board_base b) (seen_of p) (number_of p) k work at.claim at.right all }
