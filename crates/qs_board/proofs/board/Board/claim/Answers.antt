use Rattle.std.proofs.Common.{◌∙◌, sym}
use Rattle.qs_turn.specs.Passes.{number_of, seen_of}
use Rattle.qs_board.specs.Seats.{board_base}
use Rattle.qs_board.proofs.Turns.{view_found, free_found, claim_goes, view_known, arcs_known, knows_claim}
use Rattle.qs_board.proofs.board.Board.claim.Goals as goal

pub claim_held-answer-requires-clause-view : goal.claim_held-answer-requires-clause-view
claim_held-answer-requires-clause-view g c =
    view_found (board_base c.args.self.now) (number_of c.args.pass.now) (seen_of c.args.pass.now) c.begin_turn-held.result.0.machine c.begin_turn-held.ensures.finds c.args.view.now c.requires.view

pub claim_held-answer-requires-clause-free : goal.claim_held-answer-requires-clause-free
claim_held-answer-requires-clause-free g c =
    free_found (board_base c.args.self.now) (number_of c.args.pass.now) (seen_of c.args.pass.now) c.begin_turn-held.result.0.machine c.begin_turn-held.ensures.finds c.number.result (c.number.ensures ∙ c.begin_turn-held.ensures.same)
    c.requires.free

pub end_turn-requires-clause-history : goal.end_turn-requires-clause-history
end_turn-requires-clause-history g c =
    claim_goes c.claim_held-answer.result (number_of c.begin_turn-held.new.pass) c.number.result c.begin_turn-held.result.0.machine c.claim_held-answer.new.held.machine c.claim_held-answer.new.view _ (seen_of c.begin_turn-held.new.pass)
    c.number.ensures c.begin_turn-held.ensures.seen c.claim_held-answer.ensures.ok c.claim_held-answer.ensures.err

pub returns-clause-view : goal.returns-clause-view
returns-clause-view g c =
    view_known (board_base c.args.self.now) (seen_of c.end_turn.new.pass) c.claim_held-answer.result c.number.result c.begin_turn-held.result.0.machine c.claim_held-answer.new.held.machine c.args.view.now c.claim_held-answer.new.view
    c.claim_held-answer.ensures.ok c.claim_held-answer.ensures.err c.end_turn.ensures.behind c.claim_held-answer.ensures.view

pub returns-clause-arcs : goal.returns-clause-arcs
returns-clause-arcs g c =
    arcs_known (board_base c.args.self.now) (seen_of c.end_turn.new.pass) c.claim_held-answer.result c.number.result c.begin_turn-held.result.0.machine c.claim_held-answer.new.held.machine c.args.view.now c.claim_held-answer.new.view
    c.claim_held-answer.ensures.ok c.claim_held-answer.ensures.err c.end_turn.ensures.behind c.claim_held-answer.ensures.view
    (view_found (board_base c.args.self.now) (number_of c.args.pass.now) (seen_of c.args.pass.now) c.begin_turn-held.result.0.machine c.begin_turn-held.ensures.finds c.args.view.now c.requires.view)

pub returns-clause-knows : goal.returns-clause-knows
returns-clause-knows g c =
    knows_claim c.args.self.now c.end_turn.new.pass c.claim_held-answer.result c.claim_held-answer.new.view c.number.result c.begin_turn-held.result.0.machine c.claim_held-answer.new.held.machine
    (c.number.ensures ∙ sym c.end_turn.ensures.same) c.claim_held-answer.ensures.ok c.end_turn.ensures.behind
