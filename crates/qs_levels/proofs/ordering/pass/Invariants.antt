use Rattle.qs_levels.specs.working.Ordering.{IsPassed, places_left}
use Rattle.qs_levels.proofs.ordering.pass.Given as goal

abbrev pub invariant-loop-unpassed : goal.invariant-loop-unpassed
invariant-loop-unpassed l = IsPassed l.steps.sources.items l.steps.targets.items l.nodes l.number l.depth l.unpassed

abbrev pub decreases-loop-unpassed : goal.decreases-loop-unpassed
decreases-loop-unpassed l = places_left l.unpassed
