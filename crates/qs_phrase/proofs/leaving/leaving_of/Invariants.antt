use Rattle.std.proofs.Common.{◌≤◌, length}
use Rattle.qs_phrase.specs.working.Leaving.{IsIndex}
use Rattle.qs_phrase.proofs.leaving.leaving_of.Given as goal

-- the arcs from this one on are found
abbrev pub invariant-loop-arc : goal.invariant-loop-arc
invariant-loop-arc l = IsIndex l.g l.arc l.first.items l.next.items × (l.arc ≤ length l.edges)

abbrev pub decreases-loop-arc : goal.decreases-loop-arc
decreases-loop-arc l = l.arc
