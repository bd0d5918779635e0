use Rattle.std.proofs.Common.{◌≡◌, ◌++◌, drop}
use Rattle.qs_pattern.specs.Instances.{inst, IsCovered}
use Rattle.qs_pattern.specs.Patterns.{NoForestAtTop}
use Rattle.qs_pattern.specs.Patterns.{patterns}
use Rattle.qs_pattern.proofs.instances.instance.Given as goal

abbrev pub invariant-loop-pattern : goal.invariant-loop-pattern
invariant-loop-pattern l =
    record {
      trees : l.trees.items ++ inst l.subst (patterns (drop l.pattern-index l.side)) ≡ inst l.subst (patterns l.side);
      single : NoForestAtTop (patterns (drop l.pattern-index l.side));
      covered : IsCovered l.subst (patterns (drop l.pattern-index l.side));
    }
