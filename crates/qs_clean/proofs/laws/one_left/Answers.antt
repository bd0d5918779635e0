use Rattle.qs_clean.proofs.Outcomes as outcomes
use Rattle.qs_clean.proofs.laws.one_left.Goals as goal

pub returns : goal.returns
returns c = outcomes.one_clean
