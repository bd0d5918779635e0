use Rattle.qs_canon.proofs.Existence as existence
use Rattle.qs_canon.proofs.laws.rounds_exist.Goals as goal

pub returns : goal.returns
returns c = existence.has_rounds
