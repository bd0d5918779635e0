use Rattle.qs_turn.specs.Passes.{number_of, seen_of}
use Rattle.qs_board.specs.Seats.{board_base}
use Rattle.qs_board.proofs.Turns.{halt_goes, knows_halt}
use Rattle.qs_board.proofs.board.Board.halt.Goals as goal

pub end_turn-requires-clause-history : goal.end_turn-requires-clause-history
end_turn-requires-clause-history g c =
    halt_goes (number_of c.begin_turn-held.new.pass) c.number.result c.begin_turn-held.result.0.machine c.halt_held.new.held.machine (seen_of c.begin_turn-held.new.pass) c.number.ensures c.begin_turn-held.ensures.seen c.halt_held.ensures

pub returns-clause-ended : goal.returns-clause-ended
returns-clause-ended g c =
    knows_halt (board_base c.args.self.now) c.number.result (seen_of c.end_turn.new.pass) c.begin_turn-held.result.0.machine c.halt_held.new.held.machine c.halt_held.ensures c.end_turn.ensures.behind
