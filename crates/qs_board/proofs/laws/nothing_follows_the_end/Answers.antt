use Rattle.std.proofs.Common.{refl, ◌++◌}
use Rattle.qs_board.proofs.Staying.{none_later}
use Rattle.qs_board.proofs.laws.nothing_follows_the_end.Goals as goal

pub returns : goal.returns
returns c = λ B seen later M N m n ended. none_later B seen (seen ++ later) M N m n later refl ended
