use Rattle.std.proofs.Common.{◌≡◌, ◌++◌, take}
use Rattle.std.specs.Prelude.{flat_map}
use Rattle.qs_deck.specs.Texts.{rule_line}
use Rattle.qs_deck.proofs.writing.append_rules.Given as goal

abbrev pub invariant-loop-rule : goal.invariant-loop-rule
invariant-loop-rule l = l.out.items ≡ l.initial.out.items ++ flat_map (rule_line l.names) (take l.rule-index l.rules)
