use Rattle.qs_cascade.proofs.OneEnd as ends
use Rattle.qs_cascade.proofs.laws.one_end.Goals as goal

pub returns : goal.returns
returns c = ends.one_end
