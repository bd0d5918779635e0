use Rattle.qs_firing.proofs.Keys as keys
use Rattle.qs_firing.proofs.laws.one_firing.Goals as goal

pub returns : goal.returns
returns c = keys.one_firing
