use Rattle.std.proofs.Common.{◌≡◌, ◌≤◌, take, length}
use Rattle.qs_pattern.specs.Limits.{most_variables}
use Rattle.qs_pattern.specs.Variables.{firsts}
use Rattle.qs_check.specs.Cells.{variables_among}
use Rattle.qs_check.proofs.causes.first_of_33rd.Given as goal

abbrev pub invariant-loop-place : goal.invariant-loop-place
invariant-loop-place l =
    record {
      seen : l.seen.items ≡ firsts (variables_among (take l.place l.cells));
      few : length l.seen.items ≤ most_variables;
    }
