use Rattle.std.proofs.Common.{take, []}
use Rattle.qs_canon.specs.working.CanonCounts.{AreCountedDown, uses}
use Rattle.qs_canon.proofs.waiting.pass.Given as goal

abbrev pub invariant-loop-arc : goal.invariant-loop-arc
invariant-loop-arc l = AreCountedDown l.initial.missing (uses l.users (take l.arc-index l.arcs)) l.missing [] l.ready.items
