use Rattle.std.proofs.Common.{◌≡◌, take}
use Rattle.qs_tree.specs.Lists.{◌∈◌}
use Rattle.qs_pattern.specs.Rules.{Rule, IsAccepted, all_unique}
use Rattle.qs_core.proofs.state.are_unique.Given as goal

abbrev pub invariant-loop-rule : goal.invariant-loop-rule
invariant-loop-rule l = record {
  unique : l.all ≡ all_unique (take l.rule-index l.rules);
  accepted : (rule : Rule) → rule ∈ take l.rule-index l.rules → IsAccepted rule;
}
