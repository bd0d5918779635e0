use Rattle.std.proofs.Common.{◌≡◌, ◌++◌, [], length, take, drop}
use Rattle.qs_pattern.specs.working.Conditions.{conditions}
use Rattle.qs_pattern.specs.working.Named.{AreConditionsNamed}
use Rattle.qs_ruletext.specs.Texts.{member_texts}
use Rattle.qs_ruletext.proofs.ConditionTexts.{begun}
use Rattle.qs_ruletext.proofs.writing.+conditions.Given as goal

abbrev pub invariant-append_condition-loop-member : goal.invariant-append_condition-loop-member
invariant-append_condition-loop-member l =
    record {
      written :
          l.out.items ++ begun l.before l.word (member_texts l.names l.outer (conditions (drop l.member-index l.member-items)))
          ≡ l.initial.out.items ++ begun [] l.word (member_texts l.names l.outer (conditions l.member-items));
      kept : take (length l.fn.out.items) l.out.items ≡ l.fn.out.items;
      named : AreConditionsNamed (length l.names) (conditions (drop l.member-index l.member-items));
    }
