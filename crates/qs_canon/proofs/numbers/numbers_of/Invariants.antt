use Rattle.std.proofs.Common.{take}
use Rattle.qs_canon.specs.working.CanonTables.{AreNumbered}
use Rattle.qs_canon.specs.working.CanonNumbers.{table_of}
use Rattle.qs_canon.proofs.numbers.numbers_of.Given as goal

abbrev pub invariant-loop-arc : goal.invariant-loop-arc
invariant-loop-arc l = AreNumbered (table_of l.table) (take l.arc-index l.arcs) l.numbers.items
