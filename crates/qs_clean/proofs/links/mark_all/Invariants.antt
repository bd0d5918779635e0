use Rattle.std.proofs.Common.{take}
use Rattle.qs_clean.specs.working.Links.{AreMarked}
use Rattle.qs_clean.proofs.links.mark_all.Given as goal

abbrev pub invariant-loop-target : goal.invariant-loop-target
invariant-loop-target l = AreMarked (take l.target-index l.targets) l.initial.marks l.marks l.initial.waiting.items l.waiting.items
