use Rattle.std.proofs.Common.{List, subst, ◌∙◌}
use Rattle.std.proofs.lemmas.Result.{on_ok_weaker}
use Rattle.qs_pattern.specs.Rules.{Rule}
use Rattle.qs_firing.specs.Work.{IsRightFor}
use Rattle.qs_turn.specs.Passes.{seen_of}
use Rattle.qs_board.specs.Seats.{board_base}
use Rattle.qs_worker.proofs.Working.{arcs_all, right_all}
use Rattle.qs_worker.proofs.several.work_out.Goals as goal

pub publish_all-requires-clause-right : goal.publish_all-requires-clause-right
publish_all-requires-clause-right g c =
    right_all (board_base c.args.board.now) (seen_of c.args.pass.now) c.args.view.now c.in-Ok.work c.requires.view
    (subst (λ (R : List Rule). IsRightFor R c.args.view.now c.in-Ok.work) (c.rules.ensures.value ∙ c.requires.rules) c.in-Ok.ensures.right)

pub returns-in-Ok-clause-arcs : goal.returns-in-Ok-clause-arcs
returns-in-Ok-clause-arcs g c =
    on_ok_weaker c.publish_all.result (λ still. still c.args.view.now (arcs_all (board_base c.args.board.now) (seen_of c.args.pass.now) c.args.view.now c.requires.view)) c.publish_all.ensures.arcs
