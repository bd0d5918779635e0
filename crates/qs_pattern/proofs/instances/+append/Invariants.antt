use Rattle.std.proofs.Common.{◌≡◌, ◌++◌, drop}
use Rattle.qs_pattern.specs.Instances.{inst, IsCovered}
use Rattle.qs_pattern.specs.Patterns.{patterns}
use Rattle.qs_pattern.proofs.instances.+append.Given as goal

abbrev pub invariant-loop-kid : goal.invariant-loop-kid
invariant-loop-kid l =
    record {
      trees : l.out ++ inst l.subst (patterns (drop l.kid-index l.kid-items)) ≡ l.initial.out ++ inst l.subst (patterns l.kid-items);
      covered : IsCovered l.subst (patterns (drop l.kid-index l.kid-items));
    }
