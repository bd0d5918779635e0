use Rattle.std.proofs.Common.{length}
use Rattle.qs_phrase.proofs.GoingOn.{IsSpent}
use Rattle.qs_phrase.proofs.walking.go_over.Given as goal

abbrev pub invariant-loop-arc : goal.invariant-loop-arc
invariant-loop-arc l = IsSpent l.g l.initial.path.items l.path.items

abbrev pub decreases-loop-arc : goal.decreases-loop-arc
decreases-loop-arc l = length l.path.items
