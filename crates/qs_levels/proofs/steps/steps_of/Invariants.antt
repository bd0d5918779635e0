use Rattle.std.proofs.Common.{take, nat_eq}
use Rattle.std.specs.HashMap.{get}
use Rattle.qs_levels.specs.working.Steps.{AreStepsOf, AreNumbered}
use Rattle.qs_levels.proofs.steps.steps_of.Given as goal

abbrev pub invariant-loop-top : goal.invariant-loop-top
invariant-loop-top l =
    AreStepsOf l.rules (take l.top-index l.tops) l.labels.items l.sources.items l.targets.items × AreNumbered l.labels.items (λ n. get nat_eq l.numbers n)
