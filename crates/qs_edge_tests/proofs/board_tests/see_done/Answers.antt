use Rattle.std.proofs.Common.{rules, ◌≡◌, length}
use Rattle.qs_edge_tests.proofs.Boards.{all_done}
use Rattle.qs_edge_tests.proofs.board_tests.see_done.Goals as goal

pub returns : goal.returns
returns g c =
    let all : c.args.k ≡ length c.args.work.now.made = search rules in
    all_done c.args.board.now c.args.pass.now c.args.view.now c.args.work.now c.args.k all c.requires
