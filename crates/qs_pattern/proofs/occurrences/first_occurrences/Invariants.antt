use Rattle.std.proofs.Common.{◌≡◌, take}
use Rattle.qs_pattern.specs.Variables.{firsts}
use Rattle.qs_pattern.proofs.occurrences.first_occurrences.Given as goal

abbrev pub invariant-loop-var : goal.invariant-loop-var
invariant-loop-var l = l.seen.items ≡ firsts (take l.var-index l.list)
