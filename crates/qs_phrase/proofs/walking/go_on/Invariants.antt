use Rattle.std.proofs.Common.{◌-◌, length}
use Rattle.qs_phrase.proofs.GoingOn.{IsGoing}
use Rattle.qs_phrase.proofs.walking.go_on.Given as goal

abbrev pub invariant-loop-arc : goal.invariant-loop-arc
invariant-loop-arc l = IsGoing l.g l.fn.from l.initial.path.items l.path.items l.at

-- a path has fewer arcs than there are nodes
abbrev pub decreases-loop-arc : goal.decreases-loop-arc
decreases-loop-arc l = l.g.nodes - length l.path.items
