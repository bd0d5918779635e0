use Rattle.std.proofs.Common.{◌∙◌, sym, length}
use Rattle.qs_turn.specs.Passes.{number_of, seen_of}
use Rattle.qs_board.specs.Seats.{board_base}
use Rattle.qs_board.proofs.Turns.{claim_found, more_found, right_found, put_goes, arcs_put, knows_put}
use Rattle.qs_board.proofs.board.Board.publish.Goals as goal

pub publish_held-answer-requires-clause-claim : goal.publish_held-answer-requires-clause-claim
publish_held-answer-requires-clause-claim g c =
    claim_found (board_base c.args.self.now) (number_of c.args.pass.now) (seen_of c.args.pass.now) c.begin_turn-held.result.0.machine c.begin_turn-held.ensures.finds c.number.result c.args.work.now.arc c.args.k
    (c.number.ensures ∙ c.begin_turn-held.ensures.same) c.requires.claim

pub publish_held-answer-requires-clause-more : goal.publish_held-answer-requires-clause-more
publish_held-answer-requires-clause-more g c =
    more_found (board_base c.args.self.now) (number_of c.args.pass.now) (seen_of c.args.pass.now) c.begin_turn-held.result.0.machine c.begin_turn-held.ensures.finds c.args.k (length c.args.work.now.made) c.requires.more

pub publish_held-answer-requires-clause-right : goal.publish_held-answer-requires-clause-right
publish_held-answer-requires-clause-right g c =
    right_found (board_base c.args.self.now) (number_of c.args.pass.now) (seen_of c.args.pass.now) c.begin_turn-held.result.0.machine c.begin_turn-held.ensures.finds c.args.k c.args.work.now c.requires.claim c.requires.right

pub end_turn-requires-clause-history : goal.end_turn-requires-clause-history
end_turn-requires-clause-history g c =
    put_goes c.publish_held-answer.result (number_of c.begin_turn-held.new.pass) c.number.result c.begin_turn-held.result.0.machine c.publish_held-answer.new.held.machine c.args.work.now c.args.k (seen_of c.begin_turn-held.new.pass)
    c.number.ensures c.begin_turn-held.ensures.seen c.publish_held-answer.ensures.ok c.publish_held-answer.ensures.err

pub returns-clause-arcs : goal.returns-clause-arcs
returns-clause-arcs g c =
    arcs_put c.publish_held-answer.result (board_base c.args.self.now) (number_of c.args.pass.now) c.number.result (seen_of c.args.pass.now) (seen_of c.end_turn.new.pass) c.begin_turn-held.result.0.machine c.publish_held-answer.new.held.machine
    c.args.work.now c.args.k c.begin_turn-held.ensures.finds c.publish_held-answer.ensures.ok c.publish_held-answer.ensures.err c.end_turn.ensures.behind

pub returns-clause-knows : goal.returns-clause-knows
returns-clause-knows g c =
    knows_put c.args.self.now c.end_turn.new.pass (number_of c.args.pass.now) (seen_of c.args.pass.now) c.begin_turn-held.result.0.machine c.publish_held-answer.new.held.machine c.args.work.now c.args.k c.number.result
    c.begin_turn-held.ensures.finds (c.number.ensures ∙ c.begin_turn-held.ensures.same) (c.number.ensures ∙ sym c.end_turn.ensures.same) c.requires.claim c.requires.right c.end_turn.ensures.behind c.publish_held-answer.result
    c.publish_held-answer.ensures.ok
