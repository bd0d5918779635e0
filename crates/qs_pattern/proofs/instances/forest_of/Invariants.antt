use Rattle.std.proofs.Common.{◌≡◌, ◌++◌, drop}
use Rattle.qs_pattern.specs.Instances.{inst, IsCovered}
use Rattle.qs_pattern.specs.Patterns.{patterns}
use Rattle.qs_pattern.proofs.instances.forest_of.Given as goal

abbrev pub invariant-loop-pattern : goal.invariant-loop-pattern
invariant-loop-pattern l =
    record {
      trees : l.out ++ inst l.subst (patterns (drop l.pattern-index l.list)) ≡ inst l.subst (patterns l.list);
      covered : IsCovered l.subst (patterns (drop l.pattern-index l.list));
    }
