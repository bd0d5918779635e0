use Rattle.qs_pattern.proofs.NamedLemmas as named
use Rattle.qs_pattern.proofs.laws.rules_make_no_labels.Goals as goal

pub returns : goal.returns
returns c = named.builds_named
