use Rattle.qs_explain.proofs.Existence as existence
use Rattle.qs_explain.proofs.laws.something_is_supported.Goals as goal

pub returns : goal.returns
returns c = λ R accepted G valid n S reached. existence.something_supported R accepted G valid n S reached
