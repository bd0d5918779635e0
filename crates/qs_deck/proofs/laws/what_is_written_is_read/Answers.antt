use Rattle.qs_deck.proofs.DecksAccepted.{written_is_accepted}
use Rattle.qs_deck.proofs.laws.what_is_written_is_read.Goals as goal

pub returns : goal.returns
returns c = λ text version names grammars G is. written_is_accepted is
