use Rattle.std.proofs.Common.{◌≡◌, ◌++◌, drop}
use Rattle.qs_pattern.specs.working.Conditions.{conditions}
use Rattle.qs_check.proofs.Written.{written_conditions}
use Rattle.qs_check.proofs.cells.+add_condition.Given as goal

abbrev pub invariant-loop-member : goal.invariant-loop-member
invariant-loop-member l =
    l.out.items ++ written_conditions (conditions (drop l.member-index l.member-items)) ≡ l.initial.out.items ++ written_conditions (conditions l.member-items)
