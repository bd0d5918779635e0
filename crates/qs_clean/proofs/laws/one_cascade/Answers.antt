use Rattle.qs_clean.proofs.Outcomes as outcomes
use Rattle.qs_clean.proofs.laws.one_cascade.Goals as goal

pub returns : goal.returns
returns c = λ L G Rs l m e d o p. outcomes.one_cascade o p
