use Rattle.qs_pattern.proofs.MatchLemmas as matches
use Rattle.qs_match.proofs.laws.lengths_tell.Goals as goal

pub returns : goal.returns
returns c = matches.lengths_tell
