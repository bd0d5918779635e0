use Rattle.qs_board.proofs.Staying.{free_opened}
use Rattle.qs_board.proofs.laws.new_seats_are_free.Goals as goal

pub returns : goal.returns
returns c = free_opened
