use Rattle.std.proofs.Common.{take}
use Rattle.qs_tree.specs.Lists.{◌∈◌}
use Rattle.qs_pattern.specs.declared.variable.Var.{Var}
use Rattle.qs_check.specs.Cells.{variables_among}
use Rattle.qs_check.proofs.causes.first_unbound.Given as goal

abbrev pub invariant-loop-place : goal.invariant-loop-place
invariant-loop-place l = (v : Var) → v ∈ variables_among (take l.place l.cells) → v ∈ l.bound
