use Rattle.std.proofs.Common.{take}
use Rattle.qs_canon.specs.working.CanonNumbers.{table_of, AreInNumbers}
use Rattle.qs_canon.proofs.numbers.Numbers.in_numbers.Given as goal

abbrev pub invariant-loop-place : goal.invariant-loop-place
invariant-loop-place l = AreInNumbers (table_of l.self.arcs.items) l.fired (take l.place-index l.places) l.firings.items
