use Rattle.qs_board.proofs.Staying.{free_behind}
use Rattle.qs_board.proofs.laws.worked_seats_are_free.Goals as goal

pub returns : goal.returns
returns c = λ B history i k work claim right all. free_behind B history i k work claim right all
