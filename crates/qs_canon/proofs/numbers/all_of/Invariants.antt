use Rattle.std.proofs.Common.{take}
use Rattle.qs_canon.specs.working.CanonNumbers.{AllAre}
use Rattle.qs_canon.proofs.numbers.all_of.Given as goal

abbrev pub invariant-loop-number : goal.invariant-loop-number
invariant-loop-number l = AllAre (take l.number-index l.table) l.numbers.items
