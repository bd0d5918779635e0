use Rattle.std.proofs.Common.{length}
use Rattle.qs_match.proofs.apart.+search_apart.Given as goal

abbrev pub decreases-search_apart : goal.decreases-search_apart
decreases-search_apart l = length l.trees.now
