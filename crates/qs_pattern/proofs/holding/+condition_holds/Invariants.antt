use Rattle.std.proofs.Common.{◌↔◌, drop}
use Rattle.qs_pattern.specs.Conditions.{AllHold, SomeHolds}
use Rattle.qs_pattern.specs.working.Conditions.{conditions, AreConditionsCovered}
use Rattle.qs_pattern.proofs.holding.+condition_holds.Given as goal

abbrev pub invariant-all_hold-loop-member : goal.invariant-all_hold-loop-member
invariant-all_hold-loop-member l =
    record {
      hold : AllHold (conditions (drop l.member-index l.members)) l.subst ↔ AllHold (conditions l.members) l.subst;
      covered : AreConditionsCovered l.subst (conditions (drop l.member-index l.members));
    }

abbrev pub invariant-some_holds-loop-member : goal.invariant-some_holds-loop-member
invariant-some_holds-loop-member l =
    record {
      hold : SomeHolds (conditions (drop l.member-index l.members)) l.subst ↔ SomeHolds (conditions l.members) l.subst;
      covered : AreConditionsCovered l.subst (conditions (drop l.member-index l.members));
    }
