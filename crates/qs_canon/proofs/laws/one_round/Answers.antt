use Rattle.qs_canon.proofs.Rounds as rounds
use Rattle.qs_canon.proofs.laws.one_round.Goals as goal

pub returns : goal.returns
returns c = λ R G done E F e f. rounds.one_round e f
