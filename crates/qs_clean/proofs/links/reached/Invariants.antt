use Rattle.std.proofs.Common.{◌≡◌, ◌+◌, length}
use Rattle.qs_clean.specs.working.Links.{unmarked}
use Rattle.qs_clean.proofs.Exploring.{IsExploring}
use Rattle.qs_clean.proofs.links.reached.Given as goal

abbrev pub invariant-loop-node : goal.invariant-loop-node
invariant-loop-node l = IsExploring l.links l.start l.marks.items l.waiting.items × (length l.marks.items ≡ l.nodes + 1)

abbrev pub decreases-loop-node : goal.decreases-loop-node
decreases-loop-node l = unmarked l.marks.items + length l.waiting.items
