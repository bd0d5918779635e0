use Rattle.std.proofs.Common.{◌≡◌, ◌++◌, map, drop}
use Rattle.std.specs.Arc.{arc_value}
use Rattle.qs_pattern.specs.Patterns.{patterns, NoForestAtTop}
use Rattle.qs_pattern.specs.Instances.{inst, IsCovered}
use Rattle.qs_join.proofs.joining.owned_instance.Given as goal

abbrev pub invariant-loop-pattern : goal.invariant-loop-pattern
invariant-loop-pattern l =
    record {
      trees : map (λ t. arc_value t) l.trees.items ++ inst l.subst (patterns (drop l.pattern-index l.side)) ≡ inst l.subst (patterns l.side);
      single : NoForestAtTop (patterns (drop l.pattern-index l.side));
      covered : IsCovered l.subst (patterns (drop l.pattern-index l.side));
    }
