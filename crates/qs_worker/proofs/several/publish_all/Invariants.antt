use Rattle.std.proofs.Common.{◌≡◌, List, length, ◌-◌, ◌≤◌}
use Rattle.qs_graph.specs.Graphs.{Arc}
use Rattle.qs_firing.specs.Work.{IsRightFor}
use Rattle.qs_core.specs.Core.{HasClaim}
use Rattle.qs_turn.specs.Passes.{number_of}
use Rattle.qs_board.specs.Seats.{board_base, IsSeatOf, Sees, SeesArcs}
use Rattle.qs_worker.proofs.several.publish_all.Given as goal

abbrev pub invariant-loop-k : goal.invariant-loop-k
invariant-loop-k g l = record {
  own : IsSeatOf l.board l.pass;
  same : number_of l.pass ≡ number_of l.initial.pass;
  arcs : (view : List Arc) → SeesArcs l.board l.initial.pass view → SeesArcs l.board l.pass view;
  within : l.k ≤ length l.work.made;
  claim : Sees l.board l.pass (λ S. HasClaim S (number_of l.pass) l.work.arc l.k);
  right : Sees l.board l.pass (λ S. IsRightFor (board_base l.board).rules S.graph.arcs l.work);
}

abbrev pub decreases-loop-k : goal.decreases-loop-k
decreases-loop-k g l = length l.work.made - l.k
