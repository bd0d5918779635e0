use Rattle.std.proofs.Common.{take, nat_eq}
use Rattle.std.specs.HashMap.{get}
use Rattle.qs_tree.specs.Lists.{◌∈◌}
use Rattle.qs_pattern.specs.Rules.{Rule, IsAccepted}
use Rattle.qs_levels.specs.working.Accepting.{Rises}
use Rattle.qs_levels.proofs.accepting.accepts.Given as goal

abbrev pub invariant-loop-rule : goal.invariant-loop-rule
invariant-loop-rule l = ((rule : Rule) → rule ∈ take l.rule-index l.rules → Rises (λ n. get nat_eq l.known n) rule) × ((rule : Rule) → rule ∈ take l.rule-index l.rules → IsAccepted rule)
