use Rattle.qs_clean.proofs.Outcomes as outcomes
use Rattle.qs_clean.proofs.laws.one_answer.Goals as goal

pub returns : goal.returns
returns c = outcomes.one_answer
