use Rattle.std.proofs.Common.{take}
use Rattle.qs_levels.specs.working.Ordering.{AreStarted}
use Rattle.qs_levels.proofs.ordering.started.Given as goal

abbrev pub invariant-loop-unpassed : goal.invariant-loop-unpassed
invariant-loop-unpassed l = AreStarted (take l.unpassed-index l.last) l.nodes.items
