use Rattle.std.proofs.Common.{take}
use Rattle.qs_telling.specs.Phrasing.{AreReady}
use Rattle.qs_telling.proofs.phrasing.grammars_of.Given as goal

abbrev pub invariant-loop-system : goal.invariant-loop-system
invariant-loop-system l = AreReady (take l.system-index l.systems) l.grammars.items
