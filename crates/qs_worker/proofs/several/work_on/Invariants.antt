use Rattle.qs_core.specs.Core.{IsFree}
use Rattle.qs_turn.specs.Passes.{number_of}
use Rattle.qs_board.specs.Seats.{board_base, IsSeatOf, Sees, SeesArcs}
use Rattle.qs_worker.proofs.several.work_on.Given as goal

abbrev pub invariant-loop : goal.invariant-loop
invariant-loop g l = record {
  own : IsSeatOf l.desk.board l.pass;
  arcs : SeesArcs l.desk.board l.pass l.view;
  free : Sees l.desk.board l.pass (λ S. IsFree (board_base l.desk.board) S (number_of l.pass));
}
