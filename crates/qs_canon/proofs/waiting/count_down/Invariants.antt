use Rattle.std.proofs.Common.{take}
use Rattle.qs_canon.specs.working.CanonCounts.{AreCountedDown}
use Rattle.qs_canon.proofs.waiting.count_down.Given as goal

abbrev pub invariant-loop-user : goal.invariant-loop-user
invariant-loop-user l = AreCountedDown l.initial.missing (take l.user-index l.users) l.missing l.initial.ready.items l.ready.items
