use Rattle.qs_turn.specs.Passes.{number_of, seen_of}
use Rattle.qs_board.specs.Seats.{board_base}
use Rattle.qs_worker.proofs.Working.{free_first, arcs_first}
use Rattle.qs_worker.proofs.several.work_on.Goals as goal

pub loop-init : goal.loop-init
loop-init g c = record {
  own = c.requires.own;
  arcs = arcs_first (board_base c.args.desk.now.board) (seen_of c.args.pass.now) c.empty-view.result c.empty-view.ensures;
  free = free_first (board_base c.args.desk.now.board) (seen_of c.args.pass.now) (number_of c.args.pass.now) c.requires.new;
}
