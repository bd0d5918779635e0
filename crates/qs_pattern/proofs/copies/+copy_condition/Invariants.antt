use Rattle.std.proofs.Common.{◌≡◌, map, take}
use Rattle.qs_pattern.specs.Conditions.{condition_of}
use Rattle.qs_pattern.proofs.copies.+copy_condition.Given as goal

abbrev pub invariant-copies_of_conditions-loop-condition : goal.invariant-copies_of_conditions-loop-condition
invariant-copies_of_conditions-loop-condition l = map condition_of l.copies.items ≡ map condition_of (take l.condition-index l.list)
