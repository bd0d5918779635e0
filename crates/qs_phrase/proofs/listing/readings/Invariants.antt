use Rattle.std.proofs.Common.{◌≤◌, ◌-◌, length, map}
use Rattle.qs_phrase.proofs.Listed.{IsListed}
use Rattle.qs_phrase.proofs.listing.readings.Given as goal

abbrev pub invariant-loop-more : goal.invariant-loop-more
invariant-loop-more l = IsListed l.g l.path.items (map (λ p. p.items) l.paths.items) l.more × (length l.paths.items ≤ l.most)

abbrev pub decreases-loop-more : goal.decreases-loop-more
decreases-loop-more l = l.most - length l.paths.items
